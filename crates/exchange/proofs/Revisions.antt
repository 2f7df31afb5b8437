-- Two revisions: unlike ends, and what a 1.0 port writes. Assumes nothing.
use mathlib.Core.Path.{◌≡◌, refl, ap, ◌∙◌}
use mathlib.Core.Bool.{true, false}
use mathlib.Core.List.{[]}
use Rattle.tlv.specs.declared.Revision.TheVariants.{Rev10}
use Rattle.tlv.specs.Revisions.{has_applications}
use Rattle.parameters.specs.declared.Feature.TheVariants.{Applications}
use Rattle.feature.specs.declared.Reason.TheVariants.{Absent}
use Rattle.feature.specs.declared.Outcome.{Outcome}
use Rattle.feature.specs.declared.Setting.{Setting}
use Rattle.machine.specs.State.{release_tlv}
use Rattle.feature.specs.Outcome.{outcome}
use Rattle.port.specs.declared.Port.{Port}
use Rattle.port.specs.Writing.{released_tlv}
use Rattle.port.specs.Sound.{SoundPort}
use Rattle.recorder.specs.Recorder.{port_at}
use Rattle.calls.proofs.Reachable.{reachable_sound}
use Rattle.rounds.specs.Rounds.{Ends}
use Rattle.exchange.specs.Expected.{Side, side_of, received_alone, ruled, alone, expected}
use Rattle.exchange.specs.Demand3.{Begun, Agreed}
use Rattle.exchange.specs.Revisions.{BesideOlder, UnlikeEnds, WritesNoApplications}
use Rattle.exchange.proofs.Demand3.{demand3}
use Rattle.exchange.proofs.Frames as frames

-- a 1.0 port does not advertise applications
older_silent : (p : Port) → SoundPort p → p.revision ≡ Rev10 → p.applications.setting.advertise ≡ false
unfolding has_applications
older_silent p h e = ap (λ (s : Setting). s.advertise) (h.revision (ap has_applications e)).setting

-- beside an end that does not advertise it, a feature is absent
absent_beside : (own peer : Side) → own.setting.advertise ≡ true → peer.setting.advertise ≡ false → (expected Applications own peer).reason ≡ Absent
unfolding expected alone ruled received_alone outcome
absent_beside own peer a b = rw (a, b) refl

beside_older : (own peer p : Port) → SoundPort peer → peer.revision ≡ Rev10 → Agreed own peer p → BesideOlder own peer p
beside_older own peer p h e a =
    record {
      absent = λ t. ap (λ (o : Outcome). o.reason) (a.outcome Applications) ∙ absent_beside (side_of own Applications) (side_of peer Applications) t (older_silent peer h e);
      agreed = a;
    }

pub unlike_ends : (c : Ends) → Begun c → UnlikeEnds c
unlike_ends c h =
    record {
      left = λ e d rs p n. beside_older c.l c.r _ h.r.sound d ((demand3 c h).settles rs p n).0;
      right = λ e d rs p n. beside_older c.r c.l _ h.l.sound d ((demand3 c h).settles rs p n).1;
      settled_left = λ e d rs p y z. beside_older c.l c.r _ h.r.sound d ((demand3 c h).agrees rs p y z).0;
      settled_right = λ e d rs p y z. beside_older c.r c.l _ h.l.sound d ((demand3 c h).agrees rs p y z).1;
    }

nothing_written : (p : Port) → p.released.applications.setting.advertise ≡ false → released_tlv p Applications ≡ []
unfolding release_tlv
nothing_written p e = rw e refl

pub writes_no_applications : WritesNoApplications
unfolding has_applications
writes_no_applications r h n e =
    let p : Port = port_at r n in
    let s : SoundPort p = (reachable_sound r h).ports n in
    let a : p.released.applications.setting.advertise ≡ false = ap (λ (t : Setting). t.advertise) (s.withheld (ap has_applications e)) in
    record { none = nothing_written p a; contents = frames.contents p s; accepted = frames.accepted p s; count = frames.none_written p s a }
