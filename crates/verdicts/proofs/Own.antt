-- What our own engine writes is accepted, whatever is called: its lines are read back as the calls that they tell of. Assumes nothing.
use Prim.Native.Nat.{ℕ, ◌+◌, ◌<◌}
use native.Mathlib.Omega.{arith}
use native.Mathlib.Nat.{add-zero, zero-add}
use mathlib.Core.Path.{◌≡◌, refl, sym, ap, ◌∙◌}
use mathlib.Core.Bool.{Bool, true, false, not, false≢true}
use mathlib.Core.List.{List, [], ◌∷◌, ◌++◌}
use lib.ListN.{length, drop}
use lib.Seq.{take-append_seam}
use lib.Dec.{lit<}
use Rattle.std.specs.Prelude.{if◌then◌else◌, Ok, Err}
use Rattle.octets.specs.Words.{◌below◌}
use Rattle.octets.specs.Octets.{at}
use Rattle.octets.specs.Texts.{text}
use Rattle.tlv.specs.declared.Refusal.TheVariants.{NotRunning, ShortOutput}
use Rattle.parameters.specs.declared.Feature.{Feature}
use Rattle.feature.specs.declared.Switches.{Switches}
use Rattle.port.specs.declared.Port.{Port}
use Rattle.port.specs.declared.Versions.{Versions}
use Rattle.port.specs.Parts.{running}
use Rattle.port.specs.Replies.{bit}
use Rattle.port.specs.Writing.{frame}
use Rattle.port.specs.Writing as writing
use Rattle.creation.specs.Creation.{created, blank_port}
use Rattle.invariants.proofs.Standing.{Standing}
use Rattle.recorder.specs.declared.Change.{Change}
use Rattle.recorder.specs.declared.Change.TheVariants as change
use Rattle.recorder.specs.Recorder.{happens, changed, written, output}
use Rattle.calls.specs.Calls.{Operation, event_of}
use Rattle.calls.specs.Calls as call
use Rattle.comparison.specs.Comparison.{is_due}
use Rattle.judgement.specs.Entries.{Entry, Sent, Given, Changed, Passed, entry_of, port_after, is_sent}
use Rattle.ruling.specs.Ruling.{Accepted}
use Rattle.conformance.specs.Conformance.{other, verdict_at, verdict_from}
use Rattle.verdicts.specs.Transcripts.{sent_line, given_line, spaced, flag_word, bit_word, setting_words, written_lines, lines_of, Act, Call, Line, port_past, lines_at, capture_of, has_written, wrote, writes_in, OctetsWithin, Sayable, AllSayable, SettingsInRange, Own}
use Rattle.verdicts.proofs.Exact.{is_same}
use Rattle.verdicts.proofs.Calls.{sent_line_lem, given_line_lem, gone_line, flag_line, setting_line_lem}
use Rattle.verdicts.proofs.Spelling.{OwnOctets, happens_own, happens_stands, entry_octets, after_own, after_stands, frame_spelt, made}

-- what every port of our own has
record Ours (p : Port) : Type 0 where
  stands : Standing p
  own : OwnOctets p

-- ---- the verdict behind the lines of a call or of another line

-- what is heard is not judged
heard : (e : Entry) (p : Port) → is_sent e ≡ false → other e p ≡ false
unfolding is_sent other
heard (Sent o) p h = absurd (false≢true (sym h))
heard (Given o) p h = refl
heard (Changed x o) p h = refl
heard Passed p h = refl

-- the lines are not rejected, and lead to the port q with so many frames more
abbrev Leads : Port → List (List ℕ) → Port → Bool → Type 0
Leads p ls q b = (n k : ℕ) (rest : List (List ℕ)) → verdict_from p n k (ls ++ rest) ≡ verdict_from q (n + length ls) (k + bit b) rest

no_line : (p : Port) → Leads p [] p false
no_line p n k rest = rw (add-zero n, add-zero k) refl

hears : (p : Port) (l : List ℕ) (e : Entry) → entry_of l ≡ e → is_sent e ≡ false → Leads p (l ∷ []) (port_after p e) false
unfolding verdict_from verdict_at
hears p l e q h n k rest = rw (q, heard e p h, h) refl

-- a frame that was written is due
sends : (p : Port) (o : List ℕ) → OctetsWithin 513 (frame p) → running p ≡ true → o ≡ frame p → Leads p (sent_line o ∷ []) p true
unfolding verdict_from verdict_at other is_due port_after is_sent
sends p o s r e n k rest = rw (e, sent_line_lem (frame p) s, r, is_same (frame p)) refl

module _ (p : Port) (out : List ℕ) (h : Ours p) where
  writes : Leads p (written_lines (written 1 p out) (output 1 p out)) p (has_written (written 1 p out))
  unfolding written output writing.written writing.output written_lines has_written
  writes = by (running p) refl (length out below length (frame p))
    where
      by : (a : Bool) → running p ≡ a → (b : Bool)
          → Leads p
          (written_lines (if not a then Err NotRunning else if b then Err ShortOutput else Ok (length (frame p))) (if not a then out else if b then out else frame p ++ drop (length (frame p)) out))
          p (has_written (if not a then Err NotRunning else if b then Err ShortOutput else Ok (length (frame p))))
      by false e b = no_line p
      by true e true = no_line p
      by true e false = sends p _ (frame_spelt p h.stands.sound h.own) e (take-append_seam (frame p) _)

-- a call does to the port what its line is read as
does : (p : Port) (x : Operation) → Sayable (Call x) → Ours p → Leads p (lines_of p x) (event_of 1 p x).port (wrote p (Call x))
unfolding lines_of event_of changed wrote port_after is_sent
does p (call.create v w o) r h = absurd r
does p (call.frame o) r h = hears p (given_line o) (Given o) (given_line_lem o r) refl
does p call.gone r h = hears p (text "gone") (Changed change.PeerGone []) gone_line refl
does p (call.flag x on) r h = hears p (spaced (flag_word x ∷ bit_word on ∷ [])) (Changed (change.Flag x on) []) (flag_line x on) refl
does p (call.setting n w o) r h = hears p (spaced (setting_words n w o)) (Changed (change.Setting n w) o) (setting_line_lem n w r.0 o r.1) refl
does p (call.write out) r h = writes p out h
does p call.take r h = no_line p

leads : (p : Port) (x : Act) → Sayable x → Ours p → Leads p (lines_at p x) (port_past p x) (wrote p x)
unfolding lines_at port_past wrote
leads p (Call x) r h = does p x r h
leads p (Line l) r h = hears p l (entry_of l) refl r

-- ---- the port stays one of our own

none_octets : (i : ℕ) → at [] i < 256
none_octets i = lit< tt

happens_ours : (p : Port) (x : Change) (o : List ℕ) → ((i : ℕ) → at o i < 256) → Ours p → Ours (happens p x o).port
happens_ours p x o k h = record { stands = happens_stands p x o k h.stands; own = happens_own p x o k h.own }

stays : (p : Port) (x : Act) → Sayable x → Ours p → Ours (port_past p x)
unfolding port_past event_of changed
stays p (Call (call.create v w o)) r h = absurd r
stays p (Call (call.frame o)) r h = happens_ours p change.Frame o r.octets h
stays p (Call call.gone) r h = happens_ours p change.PeerGone [] none_octets h
stays p (Call (call.flag x on)) r h = happens_ours p (change.Flag x on) [] none_octets h
stays p (Call (call.setting n w o)) r h = happens_ours p (change.Setting n w) o r.1.octets h
stays p (Call (call.write out)) r h = h
stays p (Call call.take) r h = h
stays p (Line l) r h = record { stands = after_stands p (entry_of l) (entry_octets l) h.stands; own = after_own p (entry_of l) (entry_octets l) h.own }

-- ---- the claim

own_from : (xs : List Act) (p : Port) (n k : ℕ) → AllSayable xs → Ours p → verdict_from p n k (capture_of p xs) ≡ Accepted (k + writes_in p xs)
unfolding capture_of writes_in verdict_from
own_from [] p n k r h = ap Accepted (sym (add-zero k))
own_from (x ∷ xs) p n k r h =
    let e : k + bit (wrote p x) + writes_in (port_past p x) xs ≡ k + (bit (wrote p x) + writes_in (port_past p x) xs) = omega arith in
    leads p x r.0 h n k (capture_of (port_past p x) xs)
    ∙ own_from xs (port_past p x) (n + length (lines_at p x)) (k + bit (wrote p x)) r.1 (stays p x r.0 h) ∙ ap Accepted e

pub own_made : (v : Versions) (w : Feature → Switches) (o : Feature → List ℕ) → SettingsInRange v o → (xs : List Act) → AllSayable xs → Own (created v w o blank_port).port xs
own_made v w o r xs s =
    own_from xs (created v w o blank_port).port 1 0 s (record { stands = (made v w o r).0; own = (made v w o r).1 }) ∙ ap Accepted (zero-add (writes_in (created v w o blank_port).port xs))
