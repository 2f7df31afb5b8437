-- Demand 3 speaks of something: two ends that have just started have lists of rounds of every length. Assumes nothing.
use Prim.Native.Nat.{ℕ, zero, suc, ◌≤◌}
use mathlib.Core.Path.{◌≡◌, ap, ◌∙◌}
use mathlib.Core.Bool.{Bool, true, not}
use mathlib.Core.List.{List, []}
use lib.ListN.{length, replicate, length-replicate}
use borrow.Author.Tests.{le-ltb}
use Rattle.std.specs.Prelude.{if◌then◌else◌, Ok, Err}
use Rattle.octets.specs.Words.{◌below◌}
use Rattle.tlv.specs.declared.Refusal.TheVariants as refusal
use Rattle.port.specs.declared.Port.{Port}
use Rattle.port.specs.Types.{Written}
use Rattle.port.specs.Writing.{frame, written}
use Rattle.port.specs.Sound.{SoundPort}
use Rattle.port.proofs.WritingLaws.{frame_longest}
use Rattle.rounds.specs.Rounds.{left, right, other, writes, handles, Ends, Round, quiet, maybe, write_of, handle_of, calls, rounds, exec, Accepts, Proper}
use Rattle.exchange.specs.Demand3.{Begun}
use Rattle.exchange.proofs.Core.{Settings}
use Rattle.exchange.proofs.View.{settings}
use Rattle.exchange.proofs.Pairs.{Pair, step, begin}
use Rattle.exchange.proofs.Simulation.{Runs, Like, follows}
use Rattle.exchange.proofs.Started.{like_begun}

-- "Longest frame 147 octets."
unfoldable pub lent : List ℕ
lent = replicate 147 0

-- a round with no refused call, each write into 147 octets
unfoldable pub plain_round : Round
plain_round =
    record {
      lent_l = lent;
      lent_r = lent;
      writer = left;
      handler = left;
      calls_0 = [];
      calls_1 = [];
      calls_2 = [];
      calls_3 = [];
      calls_4 = [];
    }

long_enough : (p : Port) → SoundPort p → length (frame p) ≤ length lent
unfolding lent
long_enough p h = frame_longest p h

-- a write, over its two tests
abbrev write_by : Bool → Bool → Port → Written
write_by runs short p =
    if not runs then Err refusal.NotRunning
    else if short then Err refusal.ShortOutput
    else Ok (length (frame p))

accepts : (s : Settings) (p : Port) → Runs s p → Accepts p lent
unfolding written
accepts s p h = (
  length (frame p),
  ap (λ b. write_by b (length lent below length (frame p)) p) h.runs
      ∙ ap (λ b. write_by true b p) (le-ltb (length lent) (length (frame p)) (long_enough p h.sound)),
)

module _ (s t : Settings) where
  plain_proper : (n : ℕ) (c : Ends) (d : Pair) → Like s t c d → Proper (rounds (replicate n plain_round)) c
  unfolding plain_round rounds calls quiet write_of handle_of maybe other
  plain_proper zero c d h = tt
  plain_proper (suc n) c d h =
      let a1 = accepts s c.l h.runs_l in
      let h1 = follows s t (writes left lent) c d a1 h in
      let c1 : Ends = exec (writes left lent) c in
      let d1 : Pair = step s t (writes left lent) d in
      let a2 = accepts t c1.r h1.runs_r in
      let h2 = follows s t (writes right lent) c1 d1 a2 h1 in
      let c2 : Ends = exec (writes right lent) c1 in
      let d2 : Pair = step s t (writes right lent) d1 in
      let h3 = follows s t (handles left) c2 d2 tt h2 in
      let c3 : Ends = exec (handles left) c2 in
      let d3 : Pair = step s t (handles left) d2 in
      let h4 = follows s t (handles right) c3 d3 tt h3 in
      (a1, (a2, (tt, (tt, plain_proper n (exec (handles right) c3) (step s t (handles right) d3) h4))))

pub plain_rounds : (c : Ends) → Begun c → (n : ℕ) → Proper (rounds (replicate n plain_round)) c
plain_rounds c h n =
    let s = settings c.l in
    let t = settings c.r in
    plain_proper s t n c (begin s t) (like_begun c h)

pub not_empty : (c : Ends) → Begun c → (n : ℕ) → (rs : List Round) × (length rs ≡ n) × Proper (rounds rs) c
not_empty c h n = (replicate n plain_round, length-replicate n plain_round, plain_rounds c h n)
