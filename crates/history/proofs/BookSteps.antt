-- How the book's entries change when one producer goes on: quietly, with its event judged or settled, or with a slot reserved.
use Prim.Native.Nat.{ℕ, ◌+◌, ◌-◌, ◌<◌}
use mathlib.Core.Path.{◌≡◌, refl, sym, ap, subst, ◌∙◌}
use mathlib.Core.Logic.{◌≢◌}
use mathlib.Core.Bool.{true, false, cond, false≢true}
use mathlib.Core.List.{List, [], ◌∷◌, ◌++◌}
use native.Mathlib.Decide.{dec_lt}
use native.Mathlib.Omega.{arith}
use lib.Dec.{T}
use lib.ListN.{length, get_or, set, length-set, length-append, get_or-append}
use lib.Seq.{get_or-set_same, get_or-set_other, get_or-append_seam, get_or-append-add}
use Rattle.layout.specs.Record.{record_of}
use Rattle.steps.specs.declared.producer.Producer.{Producer}
use Rattle.steps.specs.Producer.{nobody}
use Rattle.steps.specs.Step.{slot, swapping, row_of}
use Rattle.history.specs.Log.{isopen, written, is_open, is_lost, Event, Piece, Work, no_piece, no_work, bytes_of}
use Rattle.history.proofs.Book.{Owns, Takes, no_event, fully, Own, Owner, Begun, Known, Slot, Entries}
use Rattle.history.proofs.Invariant.{says_of}
use Rattle.history.proofs.Sums.{each_of, each_set, each_append}
use Rattle.history.proofs.BookFrame.{open_written, fate_open, Stays, slot_on, each_pair, held_on, slot_stays, owner_on, begun_on, same_bytes}

-- ---- one producer goes on

module _ (P write : ℕ) (qs : List Producer) (ks : List Work) (es : List Event) (ps : List Piece) (B : Entries P write qs ks es ps)
    (p : ℕ) (lt : p < P) (lq : p < length qs) (lk : p < length ks) where
  abbrev q : Producer
  q = get_or qs p nobody

  abbrev k : Work
  k = get_or ks p no_work

  -- no other producer is stale as to the write count
  abbrev Fresh : ℕ → Type 0
  Fresh write' = (o : ℕ) → o < P → o ≢ p → row_of (get_or qs o nobody).phase ≡ swapping → write' ≡ (get_or qs o nobody).w.0 → write ≡ (get_or qs o nobody).w.0

  -- it settles nothing
  pub quiet : (q' : Producer) (k' : Work) (ps' : List Piece) (write' : ℕ) → (Owns q → Owns q') →
      (Owns q' → Owns q × (q'.z ≡ q.z) × (row_of q'.phase ≡ swapping → ⊥) × (T (says_of q').slotted → T (says_of q).slotted)) →
      (Owns q → k'.event ≡ k.event) → ((q'.z ≡ 0 → ⊥) → T (says_of q').busy → Begun q' k' es) → (Takes q → Takes q' × (k'.slot ≡ k.slot)) → Stays ps ps' → Fresh write' →
      Entries P write' (set qs p q') (set ks p k') es ps'
  quiet q' k' ps' write' to from event busy takes st fresh =
      record {
        begun = each_pair qs ks p q' k' lq lk (λ c q k. c < P → (q.z ≡ 0 → ⊥) → T (says_of q).busy → Begun q k es) (λ h. busy) (λ c ne h. B.begun c h);
        prod = each_pair qs ks p q' k' lq lk (λ c q k. c < P → Owns q → Owner c q k write' es) (λ h o. own (from o))
            (λ c ne h o. owner_on c _ _ write write' es es (λ x. x) (λ x. refl) (fresh c h ne) (B.prod c h o));
        event = λ i h.
            let x = B.event i h in
            record {
              who = x.who;
              held = λ y. held_on qs ks p q' k' lq lk i _ (λ o e. (to o, event o ∙ e)) (x.held y);
              loss = x.loss;
              kept = λ y. slot_on i ps ps' st (x.kept y);
            };
        slots = λ j h s.
            let n = st.back j h s in
            rw n.1 (slot_stays qs ks p q' k' lq lk j (get_or ps j no_piece) es es (λ x. x) (λ x. refl) (λ o w t e. let u = takes t in (u.0, u.1 ∙ e))
            (B.slots j n.0 (ap (λ x. x.whose) (sym n.1) ∙ s)));
        once = λ i j hi hj si sj e.
            let a = st.back i hi si in
            let b = st.back j hj sj in
            B.once i j a.0 b.0 (ap (λ x. x.whose) (sym a.1) ∙ si) (ap (λ x. x.whose) (sym b.1) ∙ sj) (ap (λ x. x.event) (sym a.1) ∙ e ∙ ap (λ x. x.event) b.1);
      }
    where
      own : Owns q × (q'.z ≡ q.z) × (row_of q'.phase ≡ swapping → ⊥) × (T (says_of q').slotted → T (says_of q).slotted) → Owner p q' k' write' es
      own f =
          let w = B.prod p lt f.0 in
          record {
            there = rw (event f.0) w.there;
            own = rw (event f.0) (record { fate = w.own.fate; who = w.own.who; long = f.1 ∙ w.own.long; told = λ s e. absurd (f.2 s); room = λ t. w.own.room (f.3 t) });
          }

  -- the event of another is another event
  apart : Owns q → (c : ℕ) → c < P → c ≢ p → Owns (get_or qs c nobody) → (get_or ks c no_work).event ≢ k.event
  apart o c h ne oc e =
      ne (sym (B.prod c h oc).own.who ∙ ap (λ i. (get_or es i no_event).rec.producer) e ∙ (B.prod p lt o).own.who)

  -- before it takes its slot, its event has none
  pub no_slot : Owns q → (Takes q → ⊥) → (j : ℕ) → j < length ps → (get_or ps j no_piece).whose ≡ slot → (get_or ps j no_piece).event ≢ k.event
  no_slot o n j h s e =
      let x = B.slots j h s in
      let w = B.prod p lt o in
      let isopen_now : (get_or es (get_or ps j no_piece).event no_event).fate ≡ isopen = ap (λ i. (get_or es i no_event).fate) e ∙ w.own.fate in
      let here : (get_or ps j no_piece).producer ≡ p = x.who ∙ ap (λ i. (get_or es i no_event).rec.producer) e ∙ w.own.who in
      n (subst (λ c. Takes (get_or qs c nobody)) here (x.mine (fate_open (get_or ps j no_piece).committed (sym x.fate ∙ isopen_now))).0)

  -- the event of each other, where that of p is exchanged
  others : (q' : Producer) (k' : Work) (e' : Event) → Owns q → (Owns q' → Owner p q' k' write (set es k.event e')) →
      (c : ℕ) → c < P → Owns (get_or (set qs p q') c nobody) → Owner c (get_or (set qs p q') c nobody) (get_or (set ks p k') c no_work) write (set es k.event e')
  others q' k' e' o own =
      each_pair qs ks p q' k' lq lk (λ c q k₁. c < P → Owns q → Owner c q k₁ write (set es k.event e')) (λ h oq. own oq)
      (λ c ne h oc. owner_on c _ _ write write es (set es k.event e') (λ x. rw length-set x)
      (λ x. get_or-set_other es k.event _ e' no_event (apart o c h ne oc)) (λ s e. e) (B.prod c h oc))

  -- and those that are busy with one
  busies : (q' : Producer) (k' : Work) (e' : Event) → Owns q → k'.event ≡ k.event → e'.rec ≡ (get_or es k.event no_event).rec → q'.z ≡ q.z →
      (c : ℕ) → c < P → ((get_or (set qs p q') c nobody).z ≡ 0 → ⊥) → T (says_of (get_or (set qs p q') c nobody)).busy →
      Begun (get_or (set qs p q') c nobody) (get_or (set ks p k') c no_work) (set es k.event e')
  busies q' k' e' o ev rec size =
      each_pair qs ks p q' k' lq lk (λ c q k₁. c < P → (q.z ≡ 0 → ⊥) → T (says_of q).busy → Begun q k₁ (set es k.event e'))
      (λ h n u. record { there = rw (length-set, ev) there; long = rw ev (size ∙ (B.prod p lt o).own.long ∙ ap length (sym (same_bytes es k.event e' there rec k.event))) })
      (λ c ne h n u. begun_on _ _ es (set es k.event e') (λ x. rw length-set x) (λ x. same_bytes es k.event e' there rec _) (B.begun c h n u))
    where
      there : k.event < length es
      there = (B.prod p lt o).there

  -- its event is judged or lost
  pub exchange : (q' : Producer) (k' : Work) (e' : Event) → Owns q → (Takes q → ⊥) → k'.event ≡ k.event → e'.rec ≡ (get_or es k.event no_event).rec → q'.z ≡ q.z →
      (Owns q' → Own p q' write e') → (e'.fate ≡ isopen → Owns q') → (is_open e'.fate ≡ false → is_lost e'.fate ≡ fully e'.note) → (e'.fate ≡ written → ⊥) →
      Entries P write (set qs p q') (set ks p k') (set es k.event e') ps
  exchange q' k' e' o n ev rec size own stillopen loss unwritten =
      record {
        begun = busies q' k' e' o ev rec size;
        prod = others q' k' e' o (λ oq. record {
          there = rw (length-set, ev) there;
          own = rw (ev, get_or-set_same es k.event e' no_event there) (own oq);
        });
        event = each_set es k.event e' no_event (λ i x. Known P i x (set qs p q') (set ks p k') ps)
            (λ h. record {
              who = rw who lt;
              held = λ y. rw who (record {
                owner = rw (get_or-set_same qs p q' nobody lq) (stillopen y);
                its = ap (λ x. x.event) (get_or-set_same ks p k' no_work lk) ∙ ev;
              });
              loss = loss;
              kept = λ y. absurd (unwritten y);
            })
            (λ i h ne.
            let x = B.event i h in
            record { who = x.who; held = λ y. held_on qs ks p q' k' lq lk i _ (λ oq e. absurd (ne (sym e))) (x.held y); loss = x.loss; kept = x.kept });
        slots = λ j h s.
            slot_stays qs ks p q' k' lq lk j (get_or ps j no_piece) es (set es k.event e') (λ x. rw length-set x)
            (λ x. get_or-set_other es k.event _ e' no_event (no_slot o n j h s)) (λ a b t e. absurd (n t)) (B.slots j h s);
        once = B.once;
      }
    where
      there : k.event < length es
      there = (B.prod p lt o).there

      who : e'.rec.producer ≡ p
      who = ap (λ r. r.producer) rec ∙ (B.prod p lt o).own.who

  -- ---- its slot is committed: its event is written

  module _ (q' : Producer) (e' : Event) (x' : Piece) (o : Owns q) (t : Takes q) (off : Owns q' → ⊥) (size : q'.z ≡ q.z)
      (rec : e'.rec ≡ (get_or es k.event no_event).rec) (wrote : e'.fate ≡ written) (note : e'.note ≡ (get_or es k.event no_event).note)
      (inlog : k.slot < length ps) (is : (get_or ps k.slot no_piece).whose ≡ slot) (of : (get_or ps k.slot no_piece).event ≡ k.event)
      (is' : x'.whose ≡ slot) (of' : x'.event ≡ k.event) (bytes' : x'.bytes ≡ (get_or ps k.slot no_piece).bytes)
      (who' : x'.producer ≡ (get_or ps k.slot no_piece).producer) (done' : x'.committed ≡ true) where
    abbrev ps' : List Piece
    ps' = set ps k.slot x'

    -- the slots are where they were, of the events that they were of
    like : (j : ℕ) → ((get_or ps' j no_piece).whose ≡ slot → (get_or ps j no_piece).whose ≡ slot) × ((get_or ps j no_piece).whose ≡ slot → (get_or ps' j no_piece).whose ≡ slot)
        × ((get_or ps' j no_piece).event ≡ (get_or ps j no_piece).event)
    like = each_of k.slot (λ j. ((get_or ps' j no_piece).whose ≡ slot → (get_or ps j no_piece).whose ≡ slot) × ((get_or ps j no_piece).whose ≡ slot → (get_or ps' j no_piece).whose ≡ slot)
        × ((get_or ps' j no_piece).event ≡ (get_or ps j no_piece).event))
        (rw (get_or-set_same ps k.slot x' no_piece inlog) (λ y. is, λ y. is', of' ∙ sym of))
        (λ j ne. rw (get_or-set_other ps k.slot j x' no_piece ne) (λ y. y, λ y. y, refl))

    long : length ps' ≡ length ps
    long = length-set ps k.slot x'

    there : k.event < length es
    there = (B.prod p lt o).there

    old : Slot k.slot (get_or ps k.slot no_piece) es qs ks
    old = B.slots k.slot inlog is

    pub finish : (k' : Work) → k'.event ≡ k.event → Entries P write (set qs p q') (set ks p k') (set es k.event e') ps'
    finish k' ev =
        record {
          begun = busies q' k' e' o ev rec size;
          prod = others q' k' e' o (λ oq. absurd (off oq));
          event = each_set es k.event e' no_event (λ i x. Known P i x (set qs p q') (set ks p k') ps')
              (λ h. record {
                who = rw rec (B.event k.event h).who;
                held = λ y. absurd (open_written (sym y ∙ wrote));
                loss = λ y. rw (wrote, note) (sym ((B.prod p lt o).own.room t.1));
                kept = λ y. record { j = k.slot; there = rw long inlog; is = (like k.slot).1 is; of = (like k.slot).2 ∙ of };
              })
              (λ i h ne.
              let x = B.event i h in
              record {
                who = x.who;
                held = λ y. held_on qs ks p q' k' lq lk i _ (λ oq e. absurd (ne (sym e))) (x.held y);
                loss = x.loss;
                kept = λ y. let z = x.kept y in record { j = z.j; there = rw long z.there; is = (like z.j).1 z.is; of = (like z.j).2 ∙ z.of };
              });
          slots = each_set ps k.slot x' no_piece (λ j x. x.whose ≡ slot → Slot j x (set es k.event e') (set qs p q') (set ks p k'))
              (λ h s. mine)
              (λ j h ne s. slot_stays qs ks p q' k' lq lk j (get_or ps j no_piece) es (set es k.event e') (λ x. rw length-set x)
              (λ x. get_or-set_other es k.event _ e' no_event (λ e. ne (B.once j k.slot h inlog s is (e ∙ sym of)))) (λ a b u e. absurd (ne (sym e))) (B.slots j h s));
          once = λ i j hi hj si sj e.
              B.once i j (rw long at hi) (rw long at hj) ((like i).0 si) ((like j).0 sj) (sym (like i).2 ∙ e ∙ (like j).2);
        }
      where
        entry : get_or (set es k.event e') x'.event no_event ≡ e'
        entry = ap (λ i. get_or (set es k.event e') i no_event) of' ∙ get_or-set_same es k.event e' no_event there

        mine : Slot k.slot x' (set es k.event e') (set qs p q') (set ks p k')
        mine =
            record {
              there = rw (length-set, of') there;
              bytes = bytes' ∙ old.bytes ∙ ap (λ i. bytes_of (get_or es i no_event)) of ∙ ap (λ r. record_of r) (sym rec) ∙ ap (λ y. bytes_of y) (sym entry);
              who = who' ∙ old.who ∙ ap (λ i. (get_or es i no_event).rec.producer) of ∙ ap (λ r. r.producer) (sym rec) ∙ ap (λ y. y.rec.producer) (sym entry);
              fate = ap (λ y. y.fate) entry ∙ wrote ∙ ap (λ b. cond b written isopen) (sym done');
              mine = λ c. absurd (false≢true (sym c ∙ done'));
            }

  -- ---- it reserves its slot, the last of the new pieces

  module _ (q' : Producer) (k' : Work) (new : List Piece) (write' : ℕ) (o : Owns q) (free : Takes q → ⊥) (o' : Owns q') (t' : Takes q') (size : q'.z ≡ q.z)
      (past : row_of q'.phase ≡ swapping → ⊥) (ev : k'.event ≡ k.event) (room : fully (get_or es k.event no_event).note ≡ false) (fresh : Fresh write')
      (n : ℕ) (place : k'.slot ≡ length ps + n) (nlt : n < length new) (others-not : (i : ℕ) → i < length new → (get_or new i no_piece).whose ≡ slot → i ≡ n)
      (is : (get_or new n no_piece).whose ≡ slot) (of : (get_or new n no_piece).event ≡ k.event) (bytes : (get_or new n no_piece).bytes ≡ bytes_of (get_or es k.event no_event))
      (who : (get_or new n no_piece).producer ≡ p) (notyet : (get_or new n no_piece).committed ≡ false) where
    abbrev all : List Piece
    all = ps ++ new

    W : Owner p q k write es
    W = B.prod p lt o

    -- a slot is an old one, or this
    data Which (j : ℕ) : Type 0 where
      before : j < length ps → get_or all j no_piece ≡ get_or ps j no_piece → Which j
      this : j ≡ k'.slot → get_or all j no_piece ≡ get_or new n no_piece → Which j

    which : (j : ℕ) → j < length all → (get_or all j no_piece).whose ≡ slot → Which j
    which j h s = go (dec_lt j (length ps))
      where
        go : Dec (j < length ps) → Which j
        go (yes a) = before a (get_or-append ps new no_piece j a)
        go (no a) =
            let e : length ps + (j - length ps) ≡ j = omega arith in
            let f : get_or all j no_piece ≡ get_or new (j - length ps) no_piece = ap (λ x. get_or all x no_piece) (sym e) ∙ get_or-append-add ps new (j - length ps) no_piece in
            let m : j - length ps ≡ n = others-not (j - length ps) (omega (arith, length-append ps new)) (ap (λ x. x.whose) (sym f) ∙ s) in
            this (sym e ∙ ap (λ x. length ps + x) m ∙ sym place) (f ∙ ap (λ x. get_or new x no_piece) m)

    pub reserve : Entries P write' (set qs p q') (set ks p k') es all
    reserve =
        record {
          begun = each_pair qs ks p q' k' lq lk (λ c q k. c < P → (q.z ≡ 0 → ⊥) → T (says_of q).busy → Begun q k es)
              (λ h x u. record { there = rw ev W.there; long = rw ev (size ∙ W.own.long) }) (λ c ne h. B.begun c h);
          prod = each_pair qs ks p q' k' lq lk (λ c q k. c < P → Owns q → Owner c q k write' es)
              (λ h oq. record {
                there = rw ev W.there;
                own = rw ev (record { fate = W.own.fate; who = W.own.who; long = size ∙ W.own.long; told = λ s e. absurd (past s); room = λ t. room });
              })
              (λ c ne h oc. owner_on c _ _ write write' es es (λ x. x) (λ x. refl) (fresh c h ne) (B.prod c h oc));
          event = λ i h.
              let x = B.event i h in
              record {
                who = x.who;
                held = λ y. held_on qs ks p q' k' lq lk i _ (λ oq e. (o', ev ∙ e)) (x.held y);
                loss = x.loss;
                kept = λ y.
                    let z = x.kept y in
                    let e = get_or-append ps new no_piece z.j z.there in
                    record { j = z.j; there = omega (arith, z.there, length-append ps new); is = ap (λ u. u.whose) e ∙ z.is; of = ap (λ u. u.event) e ∙ z.of };
              };
          slots = λ j h s. slot_of j s (which j h s);
          once = λ i j hi hj si sj e. one i j si sj e (which i hi si) (which j hj sj);
        }
      where
        mine : (j : ℕ) → j ≡ k'.slot → Slot j (get_or new n no_piece) es (set qs p q') (set ks p k')
        mine j e =
            record {
              there = rw of W.there;
              bytes = rw of bytes;
              who = rw of (who ∙ sym W.own.who);
              fate = rw (of, notyet) W.own.fate;
              mine = λ c. rw who (rw (get_or-set_same qs p q' nobody lq, get_or-set_same ks p k' no_work lk) (t', sym e));
            }

        slot_of : (j : ℕ) → (get_or all j no_piece).whose ≡ slot → Which j → Slot j (get_or all j no_piece) es (set qs p q') (set ks p k')
        slot_of j s (before a e) =
            rw e (slot_stays qs ks p q' k' lq lk j (get_or ps j no_piece) es es (λ x. x) (λ x. refl) (λ c w t x. absurd (free t))
            (B.slots j a (ap (λ x. x.whose) (sym e) ∙ s)))
        slot_of j s (this a e) = rw e (mine j a)

        one : (i j : ℕ) → (get_or all i no_piece).whose ≡ slot → (get_or all j no_piece).whose ≡ slot → (get_or all i no_piece).event ≡ (get_or all j no_piece).event → Which i → Which j → i ≡ j
        one i j si sj e (before a x) (before b y) =
            B.once i j a b (ap (λ u. u.whose) (sym x) ∙ si) (ap (λ u. u.whose) (sym y) ∙ sj) (ap (λ u. u.event) (sym x) ∙ e ∙ ap (λ u. u.event) y)
        one i j si sj e (before a x) (this b y) =
            absurd (no_slot o free i a (ap (λ u. u.whose) (sym x) ∙ si) (ap (λ u. u.event) (sym x) ∙ e ∙ ap (λ u. u.event) y ∙ of))
        one i j si sj e (this a x) (before b y) =
            absurd (no_slot o free j b (ap (λ u. u.whose) (sym y) ∙ sj) (ap (λ u. u.event) (sym y) ∙ sym e ∙ ap (λ u. u.event) x ∙ of))
        one i j si sj e (this a x) (this b y) = a ∙ sym b

  -- ---- it starts on a new event

  module _ (q' : Producer) (k' : Work) (e' : Event) (idle_now : Owns q → ⊥) (free : Takes q → ⊥) (isopen_now : e'.fate ≡ isopen) (who : e'.rec.producer ≡ p)
      (o' : Owns q') (ev : k'.event ≡ length es) (own : Own p q' write e') where
    abbrev more : List Event
    more = es ++ (e' ∷ [])

    same : (i : ℕ) → i < length es → get_or more i no_event ≡ get_or es i no_event
    same i h = get_or-append es (e' ∷ []) no_event i h

    longer : (i : ℕ) → i < length es → i < length more
    longer i h = omega (arith, length-append es (e' ∷ []))

    last : get_or more (length es) no_event ≡ e'
    last = get_or-append_seam es e' [] no_event

    pub begin : Entries P write (set qs p q') (set ks p k') more ps
    begin =
        record {
          begun = each_pair qs ks p q' k' lq lk (λ c q k. c < P → (q.z ≡ 0 → ⊥) → T (says_of q).busy → Begun q k more)
              (λ h x u. record { there = omega (arith, ev, length-append es (e' ∷ [])); long = rw (ev, last) own.long })
              (λ c ne h x u. begun_on _ _ es more (longer _) (λ y. ap (λ z. bytes_of z) (same _ y)) (B.begun c h x u));
          prod = each_pair qs ks p q' k' lq lk (λ c q k. c < P → Owns q → Owner c q k write more)
              (λ h oq. record { there = omega (arith, ev, length-append es (e' ∷ [])); own = rw (ev, last) own })
              (λ c ne h oc. owner_on c _ _ write write es more (longer _) (same _) (λ s e. e) (B.prod c h oc));
          event = each_append es (e' ∷ []) no_event (λ i x. Known P i x (set qs p q') (set ks p k') ps)
              (λ i h.
              let x = B.event i h in
              record { who = x.who; held = λ y. held_on qs ks p q' k' lq lk i _ (λ oq e. absurd (idle_now oq)) (x.held y); loss = x.loss; kept = x.kept })
              (λ i h. newest i (omega arith));
          slots = λ j h s.
              slot_stays qs ks p q' k' lq lk j (get_or ps j no_piece) es more (longer _) (same _) (λ a b t e. absurd (free t)) (B.slots j h s);
          once = B.once;
        }
      where
        opens : is_open e'.fate ≡ true
        opens = rw isopen_now

        newest : (i : ℕ) → i ≡ 0 → Known P (length es + i) (get_or (e' ∷ []) i no_event) (set qs p q') (set ks p k') ps
        newest i z =
            rw z (record {
              who = rw who lt;
              held = λ y. rw who (record {
                owner = rw (get_or-set_same qs p q' nobody lq) o';
                its = ap (λ x. x.event) (get_or-set_same ks p k' no_work lk) ∙ ev ∙ omega arith;
              });
              loss = λ y. absurd (false≢true (sym y ∙ opens));
              kept = λ y. absurd (open_written (sym isopen_now ∙ y));
            })
