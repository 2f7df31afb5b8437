-- A round by its four calls, and both ends settled: a law for each way out. Assumes nothing.
use Rattle.std.specs.Prelude.{ℕ, ◌≡◌, List, take, Ok, Err}
use Rattle.std.proofs.Math.Path.{refl, ap}
use Rattle.std.proofs.Common.{◌∙◌}
use Rattle.std.proofs.Math.Option.{none}
use Rattle.port.specs.declared.Port.{Port}
use Rattle.port.specs.declared.Event.{Event}
use Rattle.port.specs.Types.{Written}
use Rattle.events.specs.PortEvents.{unchanged}
use Rattle.port.specs.Writing.{Wrote}
use Rattle.handling.specs.Handling.{handled}
use Rattle.rounds.specs.Rounds.{other, quiet, maybe, write_of, handle_of, calls, after_write, delivered, exec, exec_all}
use Rattle.rounds.specs.Round.{Rounded}

-- the delivery of what was written into an output
unfoldable pub received : Port → Written → List ℕ → Event
received p (Ok n) out = handled p (take n out)
received p (Err why) out = unchanged p

delivers : (p : Port) (w : Written) (out : List ℕ) → received p w out ≡ delivered p (after_write w out none)
unfolding received delivered after_write
delivers p (Ok n) out = refl
delivers p (Err why) out = refl

pub rounded : (l r : Port) (ol or : List ℕ) {wl wr : Written} {ol' or' : List ℕ} {x y : Event} → Wrote l ol wl ol' → Wrote r or wr or'
    → x ≡ received l wr or' → y ≡ received r wl ol'
    → Rounded l r ol or (record { left = x.port; right = y.port; of_left = x.notices; of_right = y.notices }) ol' or'
unfolding calls quiet write_of handle_of maybe other exec exec_all
rounded l r ol or el er ex ey =
    record {
      left = ap (λ (e : Event). e.port) (ex ∙ delivers l _ _) ∙ rw (er.answers, er.octets) refl;
      right = ap (λ (e : Event). e.port) (ey ∙ delivers r _ _) ∙ rw (el.answers, el.octets) refl;
      of_left = ap (λ (e : Event). e.notices) (ex ∙ delivers l _ _) ∙ rw (er.answers, er.octets) refl;
      of_right = ap (λ (e : Event). e.notices) (ey ∙ delivers r _ _) ∙ rw (el.answers, el.octets) refl;
      output_l = el.octets;
      output_r = er.octets;
    }
