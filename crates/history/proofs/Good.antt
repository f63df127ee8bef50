-- The invariant of positions, of a ring and its log; and what a row that writes no shared word keeps of it.
use Prim.Native.Nat.{ℕ}
use mathlib.Core.Path.{◌≡◌, sym, subst}
use mathlib.Core.List.{List}
use lib.ListN.{set}
use lib.Seq.{set-get_or}
use Rattle.counts.specs.declared.commit.Commit.{Commit}
use Rattle.counts.specs.Commit.{commit}
use Rattle.steps.specs.declared.producer.Producer.{Producer}
use Rattle.steps.specs.declared.step.Moved.{Moved}
use Rattle.steps.specs.Step.{moved as still}
use Rattle.ring.specs.declared.state.Ring.{Ring}
use Rattle.ring.specs.State.{commit_at, seq_at, shared_at, stored_of, rebuilt}
use Rattle.history.specs.Log.{Log}
use Rattle.history.proofs.Invariant.{Core, KeepOf}
use Rattle.history.proofs.View.{Truth, view_of, stepped}

-- the invariant of a ring and its log: for some true numbers
pub record Good (r : Ring) (l : Log) : Type 0 where
  pub truth : Truth
  pub core : Core (view_of r l truth)
  pub keep : KeepOf (view_of r l truth)

-- ---- the ring after a row, as the invariant sees it

-- a count of sub-buffer k stored as it was
module _ (r : Ring) (k : ℕ) where
  pub commit_back : set r.commit k (commit_at r k) ≡ r.commit
  commit_back = set-get_or r.commit k (commit 0)

  pub seq_back : set r.seq k (seq_at r k) ≡ r.seq
  seq_back = set-get_or r.seq k (commit 0)

module _ (r : Ring) (p k : ℕ) where
  -- the counts after it, by what else they are known to be
  pub stored_view : (m : Moved) (commits seqs : List Commit) → set r.commit k m.shared.commit ≡ commits → set r.seq k m.shared.seq ≡ seqs → (l : Log) (t : Truth) →
      view_of (stored_of r p k m) l t
      ≡ view_of (rebuilt r m.shared.write commits seqs (set r.producer p m.q) r.offered m.shared.written m.shared.lost) l t
  stored_view m commits seqs c s l t i =
      view_of (rebuilt r m.shared.write (c i) (s i) (set r.producer p m.q) r.offered m.shared.written m.shared.lost) l t

  -- a row that writes no shared word
  pub still_view : (l : Log) (t : Truth) (q : Producer) (t' : Truth) → view_of (stored_of r p k (still q (shared_at r k))) l t' ≡ stepped p q t' (view_of r l t)
  still_view l t q t' = stored_view (still q (shared_at r k)) r.commit r.seq (commit_back r k) (seq_back r k) l t'

module _ (r : Ring) (l : Log) (t : Truth) (p : ℕ) (K : KeepOf (view_of r l t)) where
  -- a row that writes no shared word, and no seq
  pub quiet : (k : ℕ) (q' : Producer) (t' : Truth) → t'.lo ≡ t.lo → t'.Q ≡ t.Q → Core (stepped p q' t' (view_of r l t)) → Good (stored_of r p k (still q' (shared_at r k))) l
  quiet k q' t' elo eQ C =
      record {
        truth = t';
        core = subst Core (sym (still_view r p k l t q' t')) C;
        keep = rw (elo, eQ) K;
      }
