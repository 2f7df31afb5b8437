-- Both ways of an exchange, over anything that happens. Assumes nothing.
use Prim.Native.Nat.{ℕ}
use mathlib.Core.Path.{◌≡◌, refl, sym, ap, ◌∙◌, subst}
use mathlib.Core.Logic.{◌⊎◌, inl, inr}
use mathlib.Core.List.{List, [], ◌∷◌, ◌++◌, append-nil, append_assoc}
use mathlib.Core.Option.{Option, none, some}
use Rattle.parameters.specs.declared.Feature.{Feature}
use Rattle.machine.specs.State.{sub_tlv}
use Rattle.port.specs.declared.Port.{Port}
use Rattle.port.specs.Parts.{feature_of}
use Rattle.port.specs.Writing as writing
use Rattle.port.specs.Sound.{SoundPort}
use Rattle.handling.specs.Handling.{handled}
use Rattle.rounds.specs.Rounds.{End, left, right, other, Ends, refused, write, frame, writes, handles, after_write, on_its_way, delivered, exec, Accepts, RefusesWrite, Answers}
use Rattle.exchange.specs.Demand3.{Begun}
use Rattle.exchange.proofs.Calls.{write_leaves}
use Rattle.ticks.specs.Ticks.{Happening, sets, call, port_of, frame_of, happened, after, Proper, present_tlv, PastStep3, Carries, Told}
use Rattle.ticks.proofs.Events.{Moved, Local, still_moved}
use Rattle.ticks.proofs.Ways.{Last, Reply, Way, own_stirs, own_hears, own_writes, peer_stirs, peer_writes, peer_hears}
use Rattle.ticks.proofs.Given.{Up, Took, Left, given_took, given_up, refused_local, refused_up, set_local, set-up, carries}
use Rattle.ticks.proofs.Started.{started_up, started_way}
use Rattle.ticks.proofs.Moments.{after_next, told_later, told_now}

-- ---- a frame on its way is given

up_given : (P : Port → Type 0) (p : Port) (o : Option (List ℕ)) → Up p → Last P o → Up (delivered p o).port
unfolding delivered
up_given P p none h k = h
up_given P p (some o) h k = subst (λ z. Up (handled p z).port) (sym k.2) (given_up p h k.0 k.1)

module _ (T T' : Feature → Type 0) (x : Port) where
  -- to the end itself
  own_given : (a : ℕ) (own peer : Option (List ℕ)) → Up x → ((f : Feature) → sub_tlv f (feature_of (delivered x peer).port f) ≡ sub_tlv f (feature_of x f) → T f → T' f)
      → Way T x a own peer → Way T' (delivered x peer).port a own peer
  unfolding delivered
  own_given a own none h later w = own_stirs T T' x x a own none (still_moved x) later w
  own_given a own (some o) h later w = by (given_took x h w.last_peer.0 w.last_peer.1)
    where
      q : Port
      q = w.last_peer.0

      is : (handled x o).port ≡ (handled x (writing.frame q)).port
      is = ap (λ z. (handled x z).port) w.last_peer.2

      by : Took x h q w.last_peer.1 (handled x (writing.frame q)).port ⊎ Left x h q w.last_peer.1 (handled x (writing.frame q)).port → Way T' (handled x o).port a own (some o)
      by (inl k) =
          own_hears T T' x (handled x o).port a own o q w.last_peer.1 w.last_peer.2 w.last_peer.3 (subst (Moved q.control.ack x) (sym is) k.moved) later w
      by (inr k) = own_stirs T T' x (handled x o).port a own (some o) (subst (Moved x.control.rcvd x) (sym is) k.moved) later w

  -- to its peer
  peer_given : (y : Port) (own peer : Option (List ℕ)) → Up y → ((f : Feature) → T f → T' f)
      → ((f : Feature) (o : List ℕ) → own ≡ some o → PastStep3 y o → Carries f (sub_tlv f (feature_of x f)) o → T' f)
      → Way T x y.control.ack own peer → Way T' x (delivered y own).port.control.ack own peer
  unfolding delivered
  peer_given y none peer h later tells w = peer_stirs T T' x later y.control.ack y.control.ack none peer refl w
  peer_given y (some o) peer h later tells w = by (given_took y h q sound)
    where
      q : Port
      q = w.last_own.0

      sound : SoundPort q
      sound = w.last_own.1

      same : o ≡ writing.frame q
      same = w.last_own.2

      is : (handled y o).port.control.ack ≡ (handled y (writing.frame q)).port.control.ack
      is = ap (λ z. (handled y z).port.control.ack) same

      by : Took y h q sound (handled y (writing.frame q)).port ⊎ Left y h q sound (handled y (writing.frame q)).port → Way T' x (handled y o).port.control.ack (some o) peer
      by (inl k) =
          peer_hears T T' x later y.control.ack (handled y o).port.control.ack peer o q sound same w.last_own.3 (is ∙ k.ack)
          (λ f adv e. tells f o refl (subst (PastStep3 y) (sym same) k.past) (subst (Carries f (sub_tlv f (feature_of x f))) (sym same) (carries q sound f (feature_of x f) adv e)))
          w
      by (inr k) = peer_stirs T T' x later y.control.ack (handled y o).port.control.ack (some o) peer (is ∙ k.ack) w

-- ---- both ends

pub record Held (T : End → Feature → Type 0) (d : Ends) : Type 0 where
  pub up_l : Up d.l
  pub up_r : Up d.r
  pub way_l : Way (T left) d.l d.r.control.ack d.from_l d.from_r
  pub way_r : Way (T right) d.r d.l.control.ack d.from_r d.from_l

-- a call answers as its name says
abbrev Meets : Happening → Ends → Type 0
Meets (sets e number w o) d = Unit {0}
Meets (call x) d = Answers x d

write_none : (p : Port) (out : List ℕ) (o : Option (List ℕ)) → RefusesWrite p out → on_its_way p out o ≡ o
unfolding after_write
write_none p out o a = rw a.1

write_some : (p : Port) (out : List ℕ) (o : Option (List ℕ)) → Accepts p out → on_its_way p out o ≡ some (writing.frame p)
unfolding after_write
write_some p out o a = rw a.1 (ap some (write_leaves p out a.0 a.1))

module _ (T T' : End → Feature → Type 0) (d : Ends) (h : Held T d) where
  -- nothing changes
  still : ((e : End) (f : Feature) → T e f → T' e f) → Held T' d
  still later =
      record {
        up_l = h.up_l;
        up_r = h.up_r;
        way_l = peer_stirs (T left) (T' left) d.l (later left) _ _ _ _ refl h.way_l;
        way_r = peer_stirs (T right) (T' right) d.r (later right) _ _ _ _ refl h.way_r;
      }

  -- an event at an end that is no frame of the other's
  module _ (p : Port) where
    local_left : Up p → Local d.l p → ((f : Feature) → sub_tlv f (feature_of p f) ≡ sub_tlv f (feature_of d.l f) → T left f → T' left f) → ((f : Feature) → T right f → T' right f)
        → Held T' (record { l = p; r = d.r; from_l = d.from_l; from_r = d.from_r })
    local_left u k own peer =
        record {
          up_l = u;
          up_r = h.up_r;
          way_l = own_stirs (T left) (T' left) d.l p _ _ _ k.moved own h.way_l;
          way_r = peer_stirs (T right) (T' right) d.r peer _ _ _ _ k.rest.ack h.way_r;
        }

    local_right : Up p → Local d.r p → ((f : Feature) → sub_tlv f (feature_of p f) ≡ sub_tlv f (feature_of d.r f) → T right f → T' right f) → ((f : Feature) → T left f → T' left f)
        → Held T' (record { l = d.l; r = p; from_l = d.from_l; from_r = d.from_r })
    local_right u k own peer =
        record {
          up_l = h.up_l;
          up_r = u;
          way_l = peer_stirs (T left) (T' left) d.l peer _ _ _ _ k.rest.ack h.way_l;
          way_r = own_stirs (T right) (T' right) d.r p _ _ _ k.moved own h.way_r;
        }

  step : (x : Happening) → Meets x d → ((e : End) (f : Feature) → present_tlv e f (happened x d) ≡ present_tlv e f d → T e f → T' e f)
      → ((e : End) → x ≡ call (handles (other e)) → (f : Feature) (o : List ℕ) → frame_of e d ≡ some o → PastStep3 (port_of (other e) d) o → Carries f (present_tlv e f (happened x d)) o → T' e f)
      → Held T' (happened x d)
  unfolding happened exec other
  step (sets left number w o) a later now = local_left _ (set-up d.l h.up_l number w o) (set_local d.l h.up_l number w o) (later left) (λ f. later right f refl)
  step (sets right number w o) a later now = local_right _ (set-up d.r h.up_r number w o) (set_local d.r h.up_r number w o) (later right) (λ f. later left f refl)
  step (call (refused (write left out))) a later now = rw (write_none d.l out d.from_l a) (still by)
    where
      by : (e : End) (f : Feature) → T e f → T' e f
      by left f = later left f refl
      by right f = later right f refl
  step (call (refused (write right out))) a later now = rw (write_none d.r out d.from_r a) (still by)
    where
      by : (e : End) (f : Feature) → T e f → T' e f
      by left f = later left f refl
      by right f = later right f refl
  step (call (refused (frame left o))) a later now = local_left _ (refused_up d.l h.up_l o a) (refused_local d.l h.up_l o a) (later left) (λ f. later right f refl)
  step (call (refused (frame right o))) a later now = local_right _ (refused_up d.r h.up_r o a) (refused_local d.r h.up_r o a) (later right) (λ f. later left f refl)
  step (call (writes left out)) a later now =
      rw (write_some d.l out d.from_l a)
      (record {
        up_l = h.up_l;
        up_r = h.up_r;
        way_l = own_writes (T left) (T' left) d.l (λ f. later left f refl) _ _ _ _ refl h.up_l.sound h.up_l.steps h.way_l;
        way_r = peer_writes (T right) (T' right) d.r (λ f. later right f refl) d.l _ _ _ refl h.up_l.sound h.way_r;
      })
  step (call (writes right out)) a later now =
      rw (write_some d.r out d.from_r a)
      (record {
        up_l = h.up_l;
        up_r = h.up_r;
        way_l = peer_writes (T left) (T' left) d.l (λ f. later left f refl) d.r _ _ _ refl h.up_r.sound h.way_l;
        way_r = own_writes (T right) (T' right) d.r (λ f. later right f refl) _ _ _ _ refl h.up_r.sound h.up_r.steps h.way_r;
      })
  step (call (handles left)) a later now =
      record {
        up_l = up_given (Reply d.l d.r.control.ack) d.l d.from_r h.up_l h.way_l.last_peer;
        up_r = h.up_r;
        way_l = own_given (T left) (T' left) d.l _ _ _ h.up_l (later left) h.way_l;
        way_r = peer_given (T right) (T' right) d.r d.l _ _ h.up_l (λ f. later right f refl) (λ f o. now right refl f o) h.way_r;
      }
  step (call (handles right)) a later now =
      record {
        up_l = h.up_l;
        up_r = up_given (Reply d.r d.l.control.ack) d.r d.from_l h.up_r h.way_r.last_peer;
        way_l = peer_given (T left) (T' left) d.l d.r _ _ h.up_r (λ f. later left f refl) (λ f o. now left refl f o) h.way_l;
        way_r = own_given (T right) (T' right) d.r _ _ _ h.up_r (later right) h.way_r;
      }

-- ---- any run

module _ (c : Ends) where
  abbrev HeldAfter : List Happening → Type 0
  HeldAfter xs = Held (Told xs c) (after xs c)

  held_next : (xs : List Happening) (x : Happening) → Meets x (after xs c) → HeldAfter xs → HeldAfter (xs ++ (x ∷ []))
  held_next xs x a h =
      subst (Held (Told (xs ++ (x ∷ [])) c)) (sym (after_next xs c x))
      (step (Told xs c) (Told (xs ++ (x ∷ [])) c) (after xs c) h x a (told_later xs c x) now)
    where
      now : (e : End) → x ≡ call (handles (other e)) → (f : Feature) (o : List ℕ) → frame_of e (after xs c) ≡ some o → PastStep3 (port_of (other e) (after xs c)) o
          → Carries f (present_tlv e f (happened x (after xs c))) o → Told (xs ++ (x ∷ [])) c e f
      now e is f o w p k =
          subst (λ y. Told (xs ++ (y ∷ [])) c e f) (sym is) (told_now xs c e f o w p (subst (λ y. Carries f (present_tlv e f (happened y (after xs c))) o) is k))

  held : (xs ys : List Happening) → HeldAfter xs → Proper ys (after xs c) → HeldAfter (xs ++ ys)
  held xs [] h p = subst HeldAfter (sym (append-nil xs)) h
  held xs (sets e number w o ∷ ys) h p =
      subst HeldAfter (append_assoc xs (sets e number w o ∷ []) ys)
      (held (xs ++ (sets e number w o ∷ [])) ys (held_next xs (sets e number w o) tt h) (subst (Proper ys) (sym (after_next xs c (sets e number w o))) p))
  held xs (call x ∷ ys) h p =
      subst HeldAfter (append_assoc xs (call x ∷ []) ys)
      (held (xs ++ (call x ∷ [])) ys (held_next xs (call x) p.0 h) (subst (Proper ys) (sym (after_next xs c (call x))) p.1))

  pub held_all : Begun c → (xs : List Happening) → Proper xs c → HeldAfter xs
  unfolding after
  held_all b xs p = held [] xs first p
    where
      first : Held (Told [] c) c
      first =
          record {
            up_l = started_up c.l b.l;
            up_r = started_up c.r b.r;
            way_l = none_yet c.l c.r.control.ack b.no_l b.no_r (started_way c.l c.r b.l b.r (Told [] c left));
            way_r = none_yet c.r c.l.control.ack b.no_r b.no_l (started_way c.r c.l b.r b.l (Told [] c right));
          }
        where
          none_yet : {T : Feature → Type 0} (x : Port) (a : ℕ) {own peer : Option (List ℕ)} → own ≡ none → peer ≡ none → Way T x a none none → Way T x a own peer
          none_yet {T = T} x a {own = own} {peer = peer} e k w = subst (λ o. Way T x a o peer) (sym e) (subst (λ o. Way T x a none o) (sym k) w)
