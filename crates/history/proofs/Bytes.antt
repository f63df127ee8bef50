-- The invariant of ring memory: which bytes of each piece stand.
use Prim.Native.Nat.{ℕ, ◌+◌, ◌*◌, ◌%◌, ◌≤◌, ◌<◌}
use mathlib.Core.Path.{◌≡◌, subst}
use mathlib.Core.Bool.{true}
use mathlib.Core.List.{List, ◌++◌}
use native.Mathlib.Omega.{arith}
use lib.Dec.{T}
use lib.ListN.{length, get_or}
use Rattle.counts.specs.Wrap.{word}
use Rattle.layout.specs.Bytes.{le2, le4}
use Rattle.layout.specs.Header.{mark_of}
use Rattle.layout.specs.Sizes.{header}
use Rattle.steps.specs.declared.producer.Producer.{Producer}
use Rattle.steps.specs.Producer.{nobody}
use Rattle.steps.specs.Step.{Whose, padding, heading, slot, add, committing, row_of}
use Rattle.history.specs.Log.{Piece, Work, no_piece, no_work}
use Rattle.history.proofs.Chain.{Shape, Fine, Apart, before as ends-before, behind as ends-behind}
use Rattle.history.proofs.Invariant.{says_of, Event}
use Rattle.history.proofs.Memory.{Stands, Clear, before, behind}

-- ---- what stands of a piece

-- the used size that the last piece of a part gives it
abbrev pub used_of : Whose → (S offset : ℕ) → ℕ
used_of padding S o = o
used_of heading S o = 0
used_of slot S o = S

-- the header's bytes behind the used size
abbrev pub head_rest : (S k lost : ℕ) → List ℕ
head_rest S k lost = le4 (k * S % word) ++ le4 (lost % word)

module _ (S N : ℕ) (mem : List ℕ) (x : Piece) where
  pub record HeadStands : Type 0 where
    pub mark : Stands S N mem x.part 0 mark_of 6
    pub rest : Stands S N mem x.part 8 (head_rest S x.part x.lost) 8

  -- bytes 6 and 7 of its part
  abbrev pub UsedStands : Type 0
  UsedStands = Stands S N mem x.part 6 (le2 (used_of x.whose S x.offset)) 2

  -- the first n bytes of a record
  abbrev pub SlotStands : ℕ → Type 0
  SlotStands n = Stands S N mem x.part x.offset x.bytes n

-- it ends its part
abbrev pub Last : (S : ℕ) → Piece → Type 0
Last S x = x.offset + x.size ≡ S

pub record Whole (S N : ℕ) (mem : List ℕ) (x : Piece) : Type 0 where
  pub slots : x.whose ≡ slot → SlotStands S N mem x x.size
  pub heads : x.whose ≡ heading → HeadStands S N mem x
  pub used : Last S x → UsedStands S N mem x

-- ---- what a producer has written so far; b is its record

pub record PBytes (S N p : ℕ) (q : Producer) (k : Work) (pieces : List Piece) (mem desks b : List ℕ) : Type 0 where
  pub closed : row_of q.phase ≡ committing padding add → UsedStands S N mem (get_or pieces k.padding no_piece)
  pub opened : row_of q.phase ≡ committing heading add → Event q → HeadStands S N mem (get_or pieces k.heading no_piece)
  pub written : T (says_of q).slotted → Event q → SlotStands S N mem (get_or pieces k.slot no_piece) q.done
  pub ended : row_of q.phase ≡ committing slot add → Event q → Last S (get_or pieces k.slot no_piece) → UsedStands S N mem (get_or pieces k.slot no_piece)
  pub desk : T (says_of q).busy → Event q → (i : ℕ) → i < q.z → get_or desks (p * S + i) 0 ≡ get_or b i 0

pub record Bytes (S N P : ℕ) (producer : List Producer) (works : List Work) (pieces : List Piece) (lo : ℕ) (mem desks : List ℕ) (b : ℕ → List ℕ) : Type 0 where
  pub mem_long : length mem ≡ S * N
  pub desks_long : length desks ≡ P * S
  pub whole : (j : ℕ) → j < length pieces → (get_or pieces j no_piece).committed ≡ true → lo ≤ (get_or pieces j no_piece).part → Whole S N mem (get_or pieces j no_piece)
  pub prod : (p : ℕ) → p < P → PBytes S N p (get_or producer p nobody) (get_or works p no_work) pieces mem desks (b p)

-- ---- pieces do not claim each other's bytes

-- a run of bytes that belongs to a piece: of its record, the used size it gives, its header
pub data Claim (S : ℕ) (x : Piece) (o n : ℕ) : Type 0 where
  of_slot : x.whose ≡ slot → x.offset ≤ o → o + n ≤ x.offset + x.size → Claim S x o n
  of_used : Last S x → o ≡ 6 → n ≡ 2 → Claim S x o n
  of_mark : x.whose ≡ heading → o ≡ 0 → n ≡ 6 → Claim S x o n
  of_rest : x.whose ≡ heading → o ≡ 8 → n ≡ 8 → Claim S x o n

-- the header has sixteen bytes at least
pub header_long : 16 ≤ header
unfolding header
header_long = omega arith

-- where the pieces of each kind lie
pub slot_low : (S : ℕ) (x : Piece) → x.whose ≡ slot → Fine S x → header ≤ x.offset
unfolding Shape
slot_low S x e f = (subst (λ w. Shape w S x.offset x.size x.bytes) e f.shape).0

head_at : (S : ℕ) (x : Piece) → x.whose ≡ heading → Fine S x → x.offset ≡ 0
unfolding Shape
head_at S x e f = (subst (λ w. Shape w S x.offset x.size x.bytes) e f.shape).0

-- two different pieces of one part
pub clear_of : (S : ℕ) (x y : Piece) (o n o' n' : ℕ) → Fine S x → Fine S y → Apart S x y → Claim S x o n → Claim S y o' n' → Clear o n o' n'
clear_of S x y o n o' n' fx fy (ends-before h) (of_slot a b c) (of_slot a' b' c') = before (omega arith)
clear_of S x y o n o' n' fx fy (ends-behind h) (of_slot a b c) (of_slot a' b' c') = behind (omega arith)
clear_of S x y o n o' n' fx fy h (of_slot a b c) (of_used a' b' c') = behind (omega (arith, slot_low S x a fx, header_long))
clear_of S x y o n o' n' fx fy h (of_slot a b c) (of_mark a' b' c') = behind (omega (arith, slot_low S x a fx, header_long))
clear_of S x y o n o' n' fx fy h (of_slot a b c) (of_rest a' b' c') = behind (omega (arith, slot_low S x a fx, header_long))
clear_of S x y o n o' n' fx fy h (of_used a b c) (of_slot a' b' c') = before (omega (arith, slot_low S y a' fy, header_long))
clear_of S x y o n o' n' fx fy (ends-before h) (of_used a b c) (of_used a' b' c') = absurd (omega (arith, fy.some))
clear_of S x y o n o' n' fx fy (ends-behind h) (of_used a b c) (of_used a' b' c') = absurd (omega (arith, fx.some))
clear_of S x y o n o' n' fx fy h (of_used a b c) (of_mark a' b' c') = behind (omega arith)
clear_of S x y o n o' n' fx fy h (of_used a b c) (of_rest a' b' c') = before (omega arith)
clear_of S x y o n o' n' fx fy h (of_mark a b c) (of_slot a' b' c') = before (omega (arith, slot_low S y a' fy, header_long))
clear_of S x y o n o' n' fx fy h (of_mark a b c) (of_used a' b' c') = before (omega arith)
clear_of S x y o n o' n' fx fy (ends-before h) (of_mark a b c) (of_mark a' b' c') = absurd (omega (arith, head_at S y a' fy, fx.some))
clear_of S x y o n o' n' fx fy (ends-behind h) (of_mark a b c) (of_mark a' b' c') = absurd (omega (arith, head_at S x a fx, fy.some))
clear_of S x y o n o' n' fx fy h (of_mark a b c) (of_rest a' b' c') = before (omega arith)
clear_of S x y o n o' n' fx fy h (of_rest a b c) (of_slot a' b' c') = before (omega (arith, slot_low S y a' fy, header_long))
clear_of S x y o n o' n' fx fy h (of_rest a b c) (of_used a' b' c') = behind (omega arith)
clear_of S x y o n o' n' fx fy h (of_rest a b c) (of_mark a' b' c') = behind (omega arith)
clear_of S x y o n o' n' fx fy (ends-before h) (of_rest a b c) (of_rest a' b' c') = absurd (omega (arith, head_at S y a' fy, fx.some))
clear_of S x y o n o' n' fx fy (ends-behind h) (of_rest a b c) (of_rest a' b' c') = absurd (omega (arith, head_at S x a fx, fy.some))

-- a claimed run lies in its part
pub claim_fits : (S : ℕ) (x : Piece) (o n : ℕ) → 64 ≤ S → Fine S x → Claim S x o n → o + n ≤ S
claim_fits S x o n s f (of_slot a b c) = omega (arith, f.inside)
claim_fits S x o n s f (of_used a b c) = omega arith
claim_fits S x o n s f (of_mark a b c) = omega arith
claim_fits S x o n s f (of_rest a b c) = omega arith
