-- One way of an exchange, from an end to its peer: whatever happens, the numbers stand in one of three positions, and a feature that is Syncd, or is
-- released under a SeqNo that the peer has handled, has been told. Assumes nothing.
use Prim.Native.Nat.{ℕ}
use mathlib.Core.Path.{◌≡◌, refl, sym, ap, ◌∙◌, subst}
use mathlib.Core.Logic.{◌⊎◌, inl, inr}
use mathlib.Core.Bool.{true, false≢true}
use mathlib.Core.List.{List}
use mathlib.Core.Option.{Option, none, some}
use Rattle.parameters.specs.declared.Feature.{Feature}
use Rattle.machine.specs.State.{next, sub_tlv}
use Rattle.port.specs.declared.Port.{Port}
use Rattle.port.specs.Parts.{feature_of}
use Rattle.port.specs.Writing.{released_tlv, frame}
use Rattle.port.specs.Sound.{SoundPort, InStep}
use Rattle.ticks.proofs.Events.{next_other, Stays, Changes, Moved}

-- what is known of the port that wrote the frame on its way
abbrev pub Last : (Port → Type 0) → Option (List ℕ) → Type 0
Last P none = Unit {0}
Last P (some o) = (q : Port) × SoundPort q × (o ≡ frame q) × P q

last_map : {P Q : Port → Type 0} → ((q : Port) → P q → Q q) → (o : Option (List ℕ)) → Last P o → Last Q o
last_map h none k = tt
last_map h (some o) k = (k.0, k.1, k.2, h k.0 k.3)

abbrev pub Advertised : Port → Feature → Type 0
Advertised x f = (feature_of x f).setting.advertise ≡ true

-- a feature whose present sub-TLV is released
abbrev pub Out : Port → Feature → Type 0
Out x f = ((feature_of x f).syncd ≡ true) ⊎ ((feature_of x f).sequence ≡ x.control.seq)

-- what was written under the present SeqNo has the present sub-TLV of each such feature
pub record Current (x q : Port) : Type 0 where
  pub seq : q.control.seq ≡ x.control.seq
  pub has : (f : Feature) → Advertised x f → Out x f → released_tlv q f ≡ sub_tlv f (feature_of x f)

-- the own frame on its way has the present SeqNo, or the one before, which the peer has handled; a is the peer's AckNo
abbrev pub Own : Port → ℕ → Port → Type 0
Own x a q = Current x q ⊎ ((next q.control.seq ≡ x.control.seq) × (a ≡ q.control.seq))

-- the peer's acknowledges the present SeqNo only if the peer has handled it, and does if that is acknowledged
abbrev pub Reply : Port → ℕ → Port → Type 0
Reply x a q =
    (((q.control.ack ≡ x.control.seq) × (a ≡ x.control.seq)) ⊎ (next q.control.ack ≡ x.control.seq))
    × (x.control.rcvd ≡ x.control.seq → q.control.ack ≡ x.control.seq)

-- the end x, its peer's AckNo a, the frames that both wrote last; T says of a feature that it has been told
pub record Way (T : Feature → Type 0) (x : Port) (a : ℕ) (own peer : Option (List ℕ)) : Type 0 where
  pub acknowledged : x.control.rcvd ≡ x.control.seq → a ≡ x.control.seq
  pub near : (a ≡ x.control.seq) ⊎ (next a ≡ x.control.seq)
  pub last_own : Last (Own x a) own
  pub last_peer : Last (Reply x a) peer
  pub told : (f : Feature) → Advertised x f → ((feature_of x f).syncd ≡ true) ⊎ (((feature_of x f).sequence ≡ x.control.seq) × (a ≡ x.control.seq)) → T f

-- ---- what happens at the end itself

module _ (x y : Port) (a k : ℕ) (e : Moved k x y) (acks : k ≡ x.control.seq → a ≡ x.control.seq) where
  abbrev s : ℕ
  s = x.control.seq

  -- SeqNo stays, and a feature is out: then it was
  module _ (same : y.control.seq ≡ s) where
    was : (f : Feature) → Out y f → Stays f s k (feature_of x f) (feature_of y f)
    was f out = by (e.feature f) out
      where
        by : Stays f s k (feature_of x f) (feature_of y f) ⊎ Changes s (feature_of y f) → Out y f → Stays f s k (feature_of x f) (feature_of y f)
        by (inl h) out = h
        by (inr h) (inl d) = absurd (false≢true (sym h.syncd ∙ d))
        by (inr h) (inr d) = absurd (next_other s (sym h.sequence ∙ d ∙ same))

    was_out : (f : Feature) → Stays f s k (feature_of x f) (feature_of y f) → Out y f → Out x f
    was_out f h (inl d) = by (h.syncd d)
      where
        by : ((feature_of x f).syncd ≡ true) ⊎ (((feature_of x f).sequence ≡ k) × ((feature_of x f).sequence ≡ s)) → Out x f
        by (inl d) = inl d
        by (inr d) = inr d.1
    was_out f h (inr d) = inr (sym h.sequence ∙ d ∙ same)

    own_same : (q : Port) → Own x a q → Own y a q
    own_same q (inl c) =
        inl
        (record {
          seq = c.seq ∙ sym same;
          has = λ f adv out. let h = was f out in c.has f (sym h.advertised ∙ adv) (was_out f h out) ∙ sym h.tlv;
        })
    own_same q (inr c) = inr (c.0 ∙ sym same, c.1)

    reply_same : (q : Port) → Reply x a q × (k ≡ s → q.control.ack ≡ s) → Reply y a q
    reply_same q h = (by h.0.0, λ d. h.1 (sym e.rcvd ∙ d ∙ same) ∙ sym same)
      where
        by : ((q.control.ack ≡ s) × (a ≡ s)) ⊎ (next q.control.ack ≡ s) → ((q.control.ack ≡ y.control.seq) × (a ≡ y.control.seq)) ⊎ (next q.control.ack ≡ y.control.seq)
        by (inl d) = inl (d.0 ∙ sym same, d.1 ∙ sym same)
        by (inr d) = inr (d ∙ sym same)

  -- SeqNo goes up
  module _ (raised : y.control.seq ≡ next s) (k-is : k ≡ s) where
    a_is : a ≡ s
    a_is = acks k-is

    own_raised : (q : Port) → Own x a q → Own y a q
    own_raised q (inl c) = inr (ap next c.seq ∙ sym raised, a_is ∙ sym c.seq)
    own_raised q (inr c) = let d : q.control.seq ≡ s = sym c.1 ∙ a_is in absurd (next_other s (ap next (sym d) ∙ c.0))

    reply_raised : (q : Port) → Reply x a q × (k ≡ s → q.control.ack ≡ s) → Reply y a q
    reply_raised q h = (inr (ap next (h.1 k-is) ∙ sym raised), λ d. absurd (next_other s (sym raised ∙ sym d ∙ e.rcvd ∙ k-is)))

  -- a feature is told if it was
  was_told : (T : Feature → Type 0) → ((f : Feature) → Advertised x f → ((feature_of x f).syncd ≡ true) ⊎ (((feature_of x f).sequence ≡ s) × (a ≡ s)) → T f)
      → (f : Feature) → Advertised y f → ((feature_of y f).syncd ≡ true) ⊎ (((feature_of y f).sequence ≡ y.control.seq) × (a ≡ y.control.seq))
      → (sub_tlv f (feature_of y f) ≡ sub_tlv f (feature_of x f)) × T f
  was_told T told f adv out = by (e.feature f) e.seq out
    where
      now : (h : Stays f s k (feature_of x f) (feature_of y f)) → ((feature_of x f).syncd ≡ true) ⊎ (((feature_of x f).sequence ≡ s) × (a ≡ s)) → (sub_tlv f (feature_of y f) ≡ sub_tlv f (feature_of x f)) × T f
      now h d = (h.tlv, told f (sym h.advertised ∙ adv) d)

      gained : (h : Stays f s k (feature_of x f) (feature_of y f)) → ((feature_of x f).syncd ≡ true) ⊎ (((feature_of x f).sequence ≡ k) × ((feature_of x f).sequence ≡ s))
          → (sub_tlv f (feature_of y f) ≡ sub_tlv f (feature_of x f)) × T f
      gained h (inl d) = now h (inl d)
      gained h (inr d) = now h (inr (d.1, acks (sym d.0 ∙ d.1)))

      by : Stays f s k (feature_of x f) (feature_of y f) ⊎ Changes s (feature_of y f) → (y.control.seq ≡ s) ⊎ ((y.control.seq ≡ next s) × (k ≡ s))
          → ((feature_of y f).syncd ≡ true) ⊎ (((feature_of y f).sequence ≡ y.control.seq) × (a ≡ y.control.seq))
          → (sub_tlv f (feature_of y f) ≡ sub_tlv f (feature_of x f)) × T f
      by (inl h) g (inl d) = gained h (h.syncd d)
      by (inl h) (inl g) (inr d) = now h (inr (sym h.sequence ∙ d.0 ∙ g, d.1 ∙ g))
      by (inl h) (inr g) (inr d) = absurd (next_other s (sym g.0 ∙ sym d.1 ∙ acks g.1))
      by (inr h) g (inl d) = absurd (false≢true (sym h.syncd ∙ d))
      by (inr h) (inl g) (inr d) = absurd (next_other s (sym h.sequence ∙ d.0 ∙ g))
      by (inr h) (inr g) (inr d) = absurd (next_other s (sym g.0 ∙ sym d.1 ∙ acks g.1))

  pub own_moves : (T T' : Feature → Type 0) (own peer : Option (List ℕ)) → ((f : Feature) → sub_tlv f (feature_of y f) ≡ sub_tlv f (feature_of x f) → T f → T' f)
      → Last (λ q. Reply x a q × (k ≡ s → q.control.ack ≡ s)) peer → Way T x a own peer → Way T' y a own peer
  own_moves T T' own peer later replies w = by e.seq
    where
      told : (f : Feature) → Advertised y f → ((feature_of y f).syncd ≡ true) ⊎ (((feature_of y f).sequence ≡ y.control.seq) × (a ≡ y.control.seq)) → T' f
      told f adv out = let t = was_told T w.told f adv out in later f t.0 t.1

      near : (a ≡ s) ⊎ (next a ≡ s) → y.control.seq ≡ s → (a ≡ y.control.seq) ⊎ (next a ≡ y.control.seq)
      near (inl d) g = inl (d ∙ sym g)
      near (inr d) g = inr (d ∙ sym g)

      by : (y.control.seq ≡ s) ⊎ ((y.control.seq ≡ next s) × (k ≡ s)) → Way T' y a own peer
      by (inl g) =
          record {
            acknowledged = λ d. acks (sym e.rcvd ∙ d ∙ g) ∙ sym g;
            near = near w.near g;
            last_own = last_map (own_same g) own w.last_own;
            last_peer = last_map (reply_same g) peer replies;
            told = told;
          }
      by (inr g) =
          record {
            acknowledged = λ d. absurd (next_other s (sym g.0 ∙ sym d ∙ e.rcvd ∙ g.1));
            near = inr (ap next (acks g.1) ∙ sym g.0);
            last_own = last_map (own_raised g.0 g.1) own w.last_own;
            last_peer = last_map (reply_raised g.0 g.1) peer replies;
            told = told;
          }

-- nothing came: RcvdAckNo stays
pub own_stirs : (T T' : Feature → Type 0) (x y : Port) (a : ℕ) (own peer : Option (List ℕ)) → Moved x.control.rcvd x y
    → ((f : Feature) → sub_tlv f (feature_of y f) ≡ sub_tlv f (feature_of x f) → T f → T' f) → Way T x a own peer → Way T' y a own peer
own_stirs T T' x y a own peer e later w =
    own_moves x y a x.control.rcvd e w.acknowledged T T' own peer later (last_map (λ q h. (h, h.1)) peer w.last_peer) w

-- the peer's frame is handled
module _ (T T' : Feature → Type 0) (x y : Port) (a : ℕ) (own : Option (List ℕ)) (o : List ℕ) where
  pub own_hears : (q : Port) (sound : SoundPort q) (is : o ≡ frame q) → Reply x a q → Moved q.control.ack x y
      → ((f : Feature) → sub_tlv f (feature_of y f) ≡ sub_tlv f (feature_of x f) → T f → T' f) → Way T x a own (some o) → Way T' y a own (some o)
  own_hears q sound is h e later w = own_moves x y a q.control.ack e (acks h.0) T T' own (some o) later (q, sound, is, (h, λ d. d)) w
    where
      acks : ((q.control.ack ≡ x.control.seq) × (a ≡ x.control.seq)) ⊎ (next q.control.ack ≡ x.control.seq) → q.control.ack ≡ x.control.seq → a ≡ x.control.seq
      acks (inl d) k = d.1
      acks (inr d) k = absurd (next_other x.control.seq (ap next (sym k) ∙ d))

module _ (T T' : Feature → Type 0) (x : Port) (later : (f : Feature) → T f → T' f) where
  -- it writes
  pub own_writes : (a : ℕ) (own peer : Option (List ℕ)) (o : List ℕ) → o ≡ frame x → SoundPort x → InStep x → Way T x a own peer → Way T' x a (some o) peer
  own_writes a own peer o is sound h w =
      record {
        acknowledged = w.acknowledged;
        near = w.near;
        last_own = (x, sound, is, inl (record { seq = refl; has = λ f adv out. has f out }));
        last_peer = w.last_peer;
        told = λ f adv out. later f (w.told f adv out);
      }
    where
      has : (f : Feature) → Out x f → released_tlv x f ≡ sub_tlv f (feature_of x f)
      has f (inl d) = h.synced f d
      has f (inr d) = h.asked f d

  -- ---- what happens at the peer

  -- its AckNo stays
  pub peer_stirs : (a b : ℕ) (own peer : Option (List ℕ)) → b ≡ a → Way T x a own peer → Way T' x b own peer
  peer_stirs a b own peer e w =
      subst (λ n. Way T' x n own peer) (sym e)
      (record { acknowledged = w.acknowledged; near = w.near; last_own = w.last_own; last_peer = w.last_peer; told = λ f adv out. later f (w.told f adv out) })

  -- it writes
  pub peer_writes : (y : Port) (own peer : Option (List ℕ)) (o : List ℕ) → o ≡ frame y → SoundPort y → Way T x y.control.ack own peer → Way T' x y.control.ack own (some o)
  peer_writes y own peer o is sound w =
      record {
        acknowledged = w.acknowledged;
        near = w.near;
        last_own = w.last_own;
        last_peer = (y, sound, is, (near w.near, w.acknowledged));
        told = λ f adv out. later f (w.told f adv out);
      }
    where
      near : (y.control.ack ≡ x.control.seq) ⊎ (next y.control.ack ≡ x.control.seq)
          → ((y.control.ack ≡ x.control.seq) × (y.control.ack ≡ x.control.seq)) ⊎ (next y.control.ack ≡ x.control.seq)
      near (inl d) = inl (d, d)
      near (inr d) = inr d

  -- it handles the frame that the end wrote last, past step 3
  pub peer_hears : (a b : ℕ) (peer : Option (List ℕ)) (o : List ℕ) (q : Port) → SoundPort q → o ≡ frame q → Own x a q → b ≡ q.control.seq
      → ((f : Feature) → Advertised x f → released_tlv q f ≡ sub_tlv f (feature_of x f) → T' f) → Way T x a (some o) peer → Way T' x b (some o) peer
  peer_hears a b peer o q sound is (inl c) e tells w =
      let n : b ≡ x.control.seq = e ∙ c.seq in
      record {
        acknowledged = λ d. n;
        near = inl n;
        last_own = (q, sound, is, inl c);
        last_peer = last_map (λ r h. (replies r n h.0, h.1)) peer w.last_peer;
        told = λ f adv out. tells f adv (c.has f adv (is_out f out));
      }
    where
      replies : (r : Port) → b ≡ x.control.seq → ((r.control.ack ≡ x.control.seq) × (a ≡ x.control.seq)) ⊎ (next r.control.ack ≡ x.control.seq)
          → ((r.control.ack ≡ x.control.seq) × (b ≡ x.control.seq)) ⊎ (next r.control.ack ≡ x.control.seq)
      replies r n (inl d) = inl (d.0, n)
      replies r n (inr d) = inr d

      is_out : (f : Feature) → ((feature_of x f).syncd ≡ true) ⊎ (((feature_of x f).sequence ≡ x.control.seq) × (b ≡ x.control.seq)) → Out x f
      is_out f (inl d) = inl d
      is_out f (inr d) = inr d.0
  peer_hears a b peer o q sound is (inr c) e tells w = peer_stirs a b (some o) peer (e ∙ sym c.1) w
