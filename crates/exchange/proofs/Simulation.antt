-- Two ports follow the exchange of messages, call by call. Assumes nothing.
use Prim.Native.Nat.{ℕ}
use mathlib.Core.Path.{◌≡◌, sym, ap, ◌∙◌, subst}
use mathlib.Core.Bool.{Bool, true, false}
use mathlib.Core.List.{List, [], ◌∷◌}
use mathlib.Core.Option.{Option, none, some}
use Rattle.port.specs.declared.Port.{Port}
use Rattle.port.specs.Parts.{running}
use Rattle.sending.specs.Sending.{completed}
use Rattle.port.specs.Writing as writing
use Rattle.admission.specs.Admission.{Message}
use Rattle.handling.specs.Handling.{once}
use Rattle.admission.specs.Admission as admission
use Rattle.handling.specs.Handling as handling
use Rattle.port.specs.Sound.{SoundPort}
use Rattle.rounds.specs.Rounds.{left, right, write, frame, Call, refused, writes, handles, Ends, after_write, on_its_way, delivered, exec, exec_all, Accepts, RefusesWrite, RefusesFrame, Answers, Proper}
use Rattle.exchange.proofs.Core.{Settings, Core, message, recv}
use Rattle.exchange.proofs.View.{settings, view, Kept, Offers, runs_same, view_marked, kept_marked, offers_marked, view_once, kept_once, offers_once}
use Rattle.exchange.proofs.Calls.{write_leaves, refused_marks, delivered_port}
use Rattle.invariants.proofs.Soundness.{once_kept, completed_sound}
use Rattle.invariants.proofs.Standing.{rejected_sound}
use Rattle.exchange.proofs.Pairs.{Pair, given, step, run}

-- a sound port that runs with the settings `s`, while several neighbours are not flagged
pub record Runs (s : Settings) (p : Port) : Type 0 where
  pub sound : SoundPort p
  pub runs : running p ≡ true
  pub single : p.several ≡ false
  pub set : settings p ≡ s
  pub offers : Offers p

-- octets on their way, and the message that they are
abbrev pub Link : Settings → Option (List ℕ) → Option Message → Type 0
Link s none none = Unit {0}
Link s none (some m) = ⊥
Link s (some o) none = ⊥
Link s (some o) (some m) = (q : Port) × Runs s q × (o ≡ writing.frame q) × (m ≡ message s (view q))

-- ---- one end

pub runs_next : (s t : Settings) (p q : Port) → Runs s p → Runs t q → Runs s (completed p (once (message (settings q) (view q)) p))
unfolding message
runs_next s t p q h k =
    let m : Message = message (settings q) (view q) in
    let e : Kept p (completed p (once m p)) = kept_once m p in
    record {
      sound = completed_sound p (once m p) (once_kept p h.sound m k.sound.control.seq k.sound.control.ack);
      runs = runs_same p (completed p (once m p)) e ∙ h.runs;
      single = e.several ∙ h.single;
      set = e.settings ∙ h.set;
      offers = offers_once m p h.offers;
    }

-- an end that is given what its peer wrote
given_next : (own peer : Settings) (p : Port) (b : Core) (o : Option (List ℕ)) (m : Option Message) →
    Runs own p → view p ≡ b → Link peer o m → Runs own (delivered p o).port × (view (delivered p o).port ≡ given own b m)
unfolding delivered given
given_next own peer p b none none h v k = (h, v)
given_next own peer p b none (some m) h v k = absurd k
given_next own peer p b (some o) none h v k = absurd k
given_next own peer p b (some o) (some m) h v k =
    let q : Port = k.0 in
    let g : message (settings q) (view q) ≡ m = ap (λ (x : Settings). message x (view q)) k.1.set ∙ sym k.3 in
    let e : (handling.handled p o).port ≡ completed p (once (message (settings q) (view q)) p) =
    ap (λ x. (handling.handled p x).port) k.2 ∙ delivered_port p q h.runs h.single h.sound k.1.sound k.1.offers in (
      subst (Runs own) (sym e) (runs_next own peer p q h k.1),
      ap view e ∙ view_once (message (settings q) (view q)) p ∙ (λ i. recv (h.set i) (v i) (g i)),
    )

-- a refused frame leaves all but the mark (02, E1)
refused_next : (own : Settings) (p : Port) (b : Core) (o : List ℕ) → RefusesFrame p o → Runs own p → view p ≡ b →
    Runs own (handling.handled p o).port × (view (handling.handled p o).port ≡ b)
unfolding admission.rejected
refused_next own p b o a h v =
    let why = a.0 in
    let k : Bool = admission.breaks why in
    let q : Port = admission.with_broken p k in
    let e : (handling.handled p o).port ≡ q = refused_marks p o why a.1 a.2 in
    let m : Kept p q = kept_marked p k in
    let runs : Runs own q =
    record { sound = rejected_sound why 0 p h.sound; runs = runs_same p q m ∙ h.runs; single = m.several ∙ h.single; set = m.settings ∙ h.set; offers = offers_marked p k h.offers } in
    (subst (Runs own) (sym e) runs, ap view e ∙ view_marked p k ∙ v)

-- what a write leaves on its way
write_link : (own : Settings) (p : Port) (b : Core) (out : List ℕ) (o : Option (List ℕ)) → Runs own p → view p ≡ b → Accepts p out →
    Link own (on_its_way p out o) (some (message own b))
unfolding after_write
write_link own p b out o h v a = rw a.1 (p, h, write_leaves p out a.0 a.1, ap (message own) (sym v))

write_none : (p : Port) (out : List ℕ) (o : Option (List ℕ)) → RefusesWrite p out → on_its_way p out o ≡ o
unfolding after_write
write_none p out o a = rw a.1

-- ---- both ends

module _ (s t : Settings) where
  pub record Like (c : Ends) (d : Pair) : Type 0 where
    pub runs_l : Runs s c.l
    pub runs_r : Runs t c.r
    pub view_l : view c.l ≡ d.l
    pub view_r : view c.r ≡ d.r
    pub link_l : Link s c.from_l d.from_l
    pub link_r : Link t c.from_r d.from_r

  pub follows : (x : Call) (c : Ends) (d : Pair) → Answers x c → Like c d → Like (exec x c) (step s t x d)
  unfolding exec step
  follows (refused (write left out)) c d a h = rw (write_none c.l out c.from_l a) h
  follows (refused (write right out)) c d a h = rw (write_none c.r out c.from_r a) h
  follows (refused (frame left o)) c d a h =
      let x = refused_next s c.l d.l o a h.runs_l h.view_l in
      record { runs_l = x.0; runs_r = h.runs_r; view_l = x.1; view_r = h.view_r; link_l = h.link_l; link_r = h.link_r }
  follows (refused (frame right o)) c d a h =
      let x = refused_next t c.r d.r o a h.runs_r h.view_r in
      record { runs_l = h.runs_l; runs_r = x.0; view_l = h.view_l; view_r = x.1; link_l = h.link_l; link_r = h.link_r }
  follows (writes left out) c d a h =
      record {
        runs_l = h.runs_l;
        runs_r = h.runs_r;
        view_l = h.view_l;
        view_r = h.view_r;
        link_l = write_link s c.l d.l out c.from_l h.runs_l h.view_l a;
        link_r = h.link_r;
      }
  follows (writes right out) c d a h =
      record {
        runs_l = h.runs_l;
        runs_r = h.runs_r;
        view_l = h.view_l;
        view_r = h.view_r;
        link_l = h.link_l;
        link_r = write_link t c.r d.r out c.from_r h.runs_r h.view_r a;
      }
  follows (handles left) c d a h =
      let x = given_next s t c.l d.l c.from_r d.from_r h.runs_l h.view_l h.link_r in
      record { runs_l = x.0; runs_r = h.runs_r; view_l = x.1; view_r = h.view_r; link_l = h.link_l; link_r = h.link_r }
  follows (handles right) c d a h =
      let x = given_next t s c.r d.r c.from_l d.from_l h.runs_r h.view_r h.link_l in
      record { runs_l = h.runs_l; runs_r = x.0; view_l = h.view_l; view_r = x.1; link_l = h.link_l; link_r = h.link_r }

  pub follows_all : (xs : List Call) (c : Ends) (d : Pair) → Proper xs c → Like c d → Like (exec_all xs c) (run s t xs d)
  unfolding exec_all run
  follows_all [] c d a h = h
  follows_all (x ∷ xs) c d a h = follows_all xs (exec x c) (step s t x d) a.1 (follows x c d a.0 h)
