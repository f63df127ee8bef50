-- Each clause of the promise can be decided, so that a closed history is tried by computation.
use Prim.Native.Nat.{ℕ, suc}
use mathlib.Core.Path.{◌≡◌, refl, sym, ap, ◌∙◌}
use mathlib.Core.Bool.{Bool, true, false, not, ◌&&◌, ◌||◌, false≢true}
use mathlib.Core.List.{List, [], ◌∷◌}
use lib.Dec.{eqb}
use lib.ListN.{get_or}
use borrow.Author.Tests.{eqb-true, eq-eqb}
use Rattle.parts.specs.Part.{Reading, reads, refuses, decode_of, run_of}
use Rattle.parts.specs.Reading.{Run, records, refused, read_of}
use Rattle.layout.specs.Record.{Rec}
use Rattle.history.specs.Lists.{EachFrom}
use Rattle.history.specs.Log.{is_open, no_rec}
use Rattle.history.specs.History.{Moment}
use Rattle.history.specs.Promise.{Fates, Losses, Counts, Once, Stand, Delivered, Parts, Held, Promise}

-- a test that decides a statement
pub record Decided (A : Type 0) : Type 0 where
  pub test : Bool
  pub yes : test ≡ true → A
  pub sure : A → test ≡ true

-- one that answers false refutes it
pub refutes : {A : Type 0} → (d : Decided A) → d.test ≡ false → A → ⊥
refutes d e a = false≢true (sym e ∙ d.sure a)

-- ---- numbers, answers, both of two, and what is asked only where an answer is false, or true

unfoldable pub numbers : (m n : ℕ) → Decided (m ≡ n)
numbers m n = record { test = eqb m n; yes = eqb-true m n; sure = eq-eqb m n }

abbrev alike : Bool → Bool → Bool
alike true b = b
alike false b = not b

pub alike_is : (a b : Bool) → alike a b ≡ true → a ≡ b
alike_is true b e = sym e
alike_is false true e = e
alike_is false false e = refl

pub alike_so : (a b : Bool) → a ≡ b → alike a b ≡ true
alike_so true b e = sym e
alike_so false true e = e
alike_so false false e = refl

unfoldable pub answers : (a b : Bool) → Decided (a ≡ b)
answers a b = record { test = alike a b; yes = alike_is a b; sure = alike_so a b }

pub and_is : (a b : Bool) → (a && b) ≡ true → (a ≡ true) × (b ≡ true)
and_is true b e = (refl, e)
and_is false b e = absurd (false≢true e)

pub and_so : (a b : Bool) → a ≡ true → b ≡ true → (a && b) ≡ true
and_so true b e f = f
and_so false b e f = e

unfoldable pub both : {A B : Type 0} → Decided A → Decided B → Decided (A × B)
both d e =
    record {
      test = d.test && e.test;
      yes = λ x. let t = and_is d.test e.test x in (d.yes t.0, e.yes t.1);
      sure = λ x. and_so d.test e.test (d.sure x.0) (e.sure x.1);
    }

pub or_is : (a b : Bool) → (a || b) ≡ true → a ≡ false → b ≡ true
or_is true b e f = absurd (false≢true (sym f))
or_is false b e f = e

pub or_so : (a b : Bool) → (a ≡ false → b ≡ true) → (a || b) ≡ true
or_so true b f = refl
or_so false b f = f refl

unfoldable pub unless : {A : Type 0} (a : Bool) → Decided A → Decided (a ≡ false → A)
unless a d = record { test = a || d.test; yes = λ x f. d.yes (or_is a d.test x f); sure = λ x. or_so a d.test (λ f. d.sure (x f)) }

pub not_is : (a : Bool) → a ≡ true → not a ≡ false
not_is a e = ap not e

pub not_so : (a : Bool) → not a ≡ false → a ≡ true
not_so true e = refl
not_so false e = sym e

unfoldable pub where_so : {A : Type 0} (a : Bool) → Decided A → Decided (a ≡ true → A)
where_so a d =
    record {
      test = not a || d.test;
      yes = λ x f. d.yes (or_is (not a) d.test x (not_is a f));
      sure = λ x. or_so (not a) d.test (λ f. d.sure (x (not_so a f)));
    }

-- ---- lists, and something of each element

abbrev pub tail : {A : Type 0} → List A → List A
tail [] = []
tail (x ∷ xs) = xs

unfoldable pub lists : {A : Type 0} (d : A) → ((x y : A) → Decided (x ≡ y)) → (l k : List A) → Decided (l ≡ k)
lists d t [] [] = record { test = true; yes = λ e. refl; sure = λ e. refl }
lists d t [] (y ∷ ys) = record { test = false; yes = λ e. absurd (false≢true e); sure = λ e. cc }
lists d t (x ∷ xs) [] = record { test = false; yes = λ e. absurd (false≢true e); sure = λ e. cc }
lists d t (x ∷ xs) (y ∷ ys) =
    let b = both (t x y) (lists d t xs ys) in
    record { test = b.test; yes = λ e. let p = b.yes e in cc; sure = λ e. b.sure (ap (λ l. get_or l 0 d) e, ap tail e) }

abbrev pub bytes : (l k : List ℕ) → Decided (l ≡ k)
bytes l k = lists 0 numbers l k

unfoldable pub each : {A : Type 0} (n : ℕ) (Q : ℕ → A → Type 0) → ((i : ℕ) (x : A) → Decided (Q i x)) → (l : List A) → Decided (EachFrom n Q l)
unfolding EachFrom
each n Q t [] = record { test = true; yes = λ e. tt; sure = λ e. refl }
each n Q t (x ∷ xs) = both (t n x) (each (suc n) Q t xs)

-- ---- records and readings

pub rec_is : (a b : Rec) → a.kind ≡ b.kind → a.producer ≡ b.producer → a.payload ≡ b.payload → a ≡ b
rec_is a b k p l =
    ap (λ x. record { kind = x; producer = a.producer; payload = a.payload }) k
    ∙ ap (λ x. record { kind = b.kind; producer = x; payload = a.payload }) p
    ∙ ap (λ x. record { kind = b.kind; producer = b.producer; payload = x }) l

unfoldable pub recs : (a b : Rec) → Decided (a ≡ b)
recs a b =
    let t = both (numbers a.kind b.kind) (both (numbers a.producer b.producer) (bytes a.payload b.payload)) in
    record {
      test = t.test;
      yes = λ e. let p = t.yes e in rec_is a b p.0 p.1.0 p.1.1;
      sure = λ e. t.sure (ap (λ r. r.kind) e, (ap (λ r. r.producer) e, ap (λ r. r.payload) e));
    }

abbrev list_of : Run → List Rec
list_of (records rs) = rs
list_of (refused why) = []

unfoldable pub runs : (x : Run) (qs : List Rec) → Decided (x ≡ records qs)
runs (records rs) qs = let t = lists no_rec recs rs qs in record { test = t.test; yes = λ e. ap records (t.yes e); sure = λ e. t.sure (ap list_of e) }
runs (refused why) qs = record { test = false; yes = λ e. absurd (false≢true e); sure = λ e. cc }

unfoldable pub readings : (x : Reading) (p o u n : ℕ) → Decided (x ≡ reads p o u n)
readings (reads a b c d) p o u n =
    let t = both (numbers a p) (both (numbers b o) (both (numbers c u) (numbers d n))) in
    record { test = t.test; yes = λ e. let q = t.yes e in cc; sure = λ e. t.sure (cc, (cc, (cc, cc))) }
readings (refuses why) p o u n = record { test = false; yes = λ e. absurd (false≢true e); sure = λ e. cc }

-- ---- the clauses

unfoldable pub fates : (m : Moment) → Decided (Fates m)
fates m = each 0 _ (λ i e. answers _ _) m.log.events

unfoldable pub losses : (m : Moment) → Decided (Losses m)
losses m = each 0 _ (λ i e. unless (is_open e.fate) (answers _ _)) m.log.events

unfoldable pub counts : (m : Moment) → Decided (Counts m)
counts m =
    let t = both (numbers _ _) (both (numbers _ _) (both (numbers _ _) (both (numbers _ _) (numbers _ _)))) in
    record {
      test = t.test;
      yes = λ e. let x = t.yes e in record { offered = x.0; written = x.1.0; lost = x.1.1.0; write = x.1.1.1.0; read = x.1.1.1.1 };
      sure = λ x. t.sure (x.offered, (x.written, (x.lost, (x.write, x.read))));
    }

unfoldable pub once : (m : Moment) → Decided (Once m)
once m = each 0 _ (λ i e. numbers _ _) m.log.events

unfoldable pub stand : (m : Moment) → Decided (Stand m)
stand m = lists [] bytes _ _

unfoldable pub delivered : (m : Moment) (k : ℕ) (part : List ℕ) → Decided (Delivered m k part)
delivered m k part =
    let t = both (readings (decode_of part) _ _ _ _) (both (runs (read_of (run_of part)) _) (numbers _ _)) in
    record {
      test = t.test;
      yes = λ e. let x = t.yes e in record { decodes = x.0; holds = x.1.0; whole = x.1.1 };
      sure = λ x. t.sure (x.decodes, (x.holds, x.whole));
    }

unfoldable pub parts : (m : Moment) → Decided (Parts m)
parts m = each 0 _ (λ j part. delivered m _ part) m.log.delivered

unfoldable pub held : (m : Moment) → Decided (Held m)
held m = where_so m.world.ring.holding (both (numbers _ _) (bytes _ _))

-- ---- all of it

unfoldable pub promise : (m : Moment) → Decided (Promise m)
promise m =
    let t = both (fates m) (both (losses m) (both (counts m) (both (once m) (both (stand m) (both (parts m) (held m)))))) in
    record {
      test = t.test;
      yes = λ e.
          let x = t.yes e in
          record { fates = x.0; losses = x.1.0; counts = x.1.1.0; once = x.1.1.1.0; stand = x.1.1.1.1.0; parts = x.1.1.1.1.1.0; held = x.1.1.1.1.1.1 };
      sure = λ x. t.sure (x.fates, (x.losses, (x.counts, (x.once, (x.stand, (x.parts, x.held))))));
    }
