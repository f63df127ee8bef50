-- What the invariant reads of a moment: the machine's counts and producers, the log's pieces, and the true numbers behind them.
use Prim.Native.Nat.{ℕ, ◌+◌, ◌/◌}
use mathlib.Core.Bool.{Bool}
use mathlib.Core.List.{List, []}
use lib.ListN.{get_or, set}
use Rattle.counts.specs.declared.commit.Commit.{Commit}
use Rattle.steps.specs.declared.producer.Producer.{Producer}
use Rattle.steps.specs.Producer.{nobody}
use Rattle.ring.specs.declared.state.Ring.{Ring}
use Rattle.history.specs.Log.{Piece, Work, Log, no_piece, no_work}

-- the true w, v and s of a producer, and the bytes of its record
pub record Mark : Type 0 where
  pub saw : ℕ
  pub v : ℕ
  pub s : ℕ
  pub bytes : List ℕ

abbrev pub no_mark : Mark
no_mark = record { saw = 0; v = 0; s = 0; bytes = [] }

-- where the window of N parts starts, the true commit counts and seqs, and the producers' marks
pub record Truth : Type 0 where
  pub lo : ℕ
  pub C : List ℕ
  pub Q : List ℕ
  pub marks : List Mark

pub record View : Type 0 where
  pub S : ℕ
  pub N : ℕ
  pub P : ℕ
  pub write : ℕ
  pub read : ℕ
  pub commit : List Commit
  pub seq : List Commit
  pub producer : List Producer
  pub hold : Bool
  pub start : ℕ
  pub W : ℕ
  pub rk : ℕ
  pub pieces : List Piece
  pub works : List Work
  pub truth : Truth

-- rk: the part at the read count
abbrev pub view_of : Ring → Log → Truth → View
view_of r l t =
    record { S = r.size; N = r.parts; P = r.producers; write = r.write.0; read = r.read.0; commit = r.commit; seq = r.seq; producer = r.producer; hold = r.holding; start = l.start; W = l.write; rk = l.start / r.size + l.back; pieces = l.pieces; works = l.works; truth = t }

abbrev pub at : View → ℕ → Producer
at v p = get_or v.producer p nobody

abbrev pub work : View → ℕ → Work
work v p = get_or v.works p no_work

abbrev pub mark : View → ℕ → Mark
mark v p = get_or v.truth.marks p no_mark

abbrev pub piece : View → ℕ → Piece
piece v j = get_or v.pieces j no_piece

-- ---- what a row changes of it

-- the true numbers, one exchanged
abbrev pub with_mark : ℕ → Mark → Truth → Truth
with_mark p k t = record { lo = t.lo; C = t.C; Q = t.Q; marks = set t.marks p k }

abbrev pub with_c : List ℕ → Truth → Truth
with_c C t = record { lo = t.lo; C = C; Q = t.Q; marks = t.marks }

abbrev pub with_q : List ℕ → Truth → Truth
with_q Q t = record { lo = t.lo; C = t.C; Q = Q; marks = t.marks }

abbrev pub with_lo : ℕ → Truth → Truth
with_lo lo t = record { lo = lo; C = t.C; Q = t.Q; marks = t.marks }

-- p's record, and the true numbers
abbrev pub stepped : (p : ℕ) → Producer → Truth → View → View
stepped p q t v =
    record { S = v.S; N = v.N; P = v.P; write = v.write; read = v.read; commit = v.commit; seq = v.seq; producer = set v.producer p q; hold = v.hold; start = v.start; W = v.W; rk = v.rk; pieces = v.pieces; works = v.works; truth = t }

abbrev pub with_works : List Work → View → View
with_works ks v =
    record { S = v.S; N = v.N; P = v.P; write = v.write; read = v.read; commit = v.commit; seq = v.seq; producer = v.producer; hold = v.hold; start = v.start; W = v.W; rk = v.rk; pieces = v.pieces; works = ks; truth = v.truth }

abbrev pub with_work : (p : ℕ) → Work → View → View
with_work p k v = with_works (set v.works p k) v

abbrev pub with_pieces : List Piece → View → View
with_pieces ps v =
    record { S = v.S; N = v.N; P = v.P; write = v.write; read = v.read; commit = v.commit; seq = v.seq; producer = v.producer; hold = v.hold; start = v.start; W = v.W; rk = v.rk; pieces = ps; works = v.works; truth = v.truth }

abbrev pub with_write : (write W : ℕ) → View → View
with_write write W v =
    record { S = v.S; N = v.N; P = v.P; write = write; read = v.read; commit = v.commit; seq = v.seq; producer = v.producer; hold = v.hold; start = v.start; W = W; rk = v.rk; pieces = v.pieces; works = v.works; truth = v.truth }

abbrev pub with_commit : List Commit → View → View
with_commit c v =
    record { S = v.S; N = v.N; P = v.P; write = v.write; read = v.read; commit = c; seq = v.seq; producer = v.producer; hold = v.hold; start = v.start; W = v.W; rk = v.rk; pieces = v.pieces; works = v.works; truth = v.truth }

abbrev pub with_seq : List Commit → View → View
with_seq c v =
    record { S = v.S; N = v.N; P = v.P; write = v.write; read = v.read; commit = v.commit; seq = c; producer = v.producer; hold = v.hold; start = v.start; W = v.W; rk = v.rk; pieces = v.pieces; works = v.works; truth = v.truth }
