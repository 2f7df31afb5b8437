-- 02, E6: a walk is a value; it goes over the octets from its place on, and its places are those of the whole.
use Rattle.tlv.specs.Refusals.{rejection}
use Rattle.std.specs.Prelude.{Err, ℕ, zero, suc, ◌+◌, ◌-◌, List, length, drop}
use Rattle.tlv.specs.declared.Refusal.TheVariants.{PastEnd}
use Rattle.tlv.specs.declared.Head.{Head}
use Rattle.tlv.specs.declared.Head.TheVariants.{End, Past, SubTlv}
use Rattle.walk.specs.declared.Walk.{Walk}
use Rattle.walk.specs.declared.Step.{Step}
use Rattle.walk.specs.declared.Step.TheVariants as step
use Rattle.contents.specs.Contents.{Reading}
use Rattle.tlv.specs.Layout.{head_at}
use Rattle.contents.specs.Contents.{no_contents, noted_at, no_control, kept_behind, judged}

-- before the first sub-TLV
abbrev pub begun : Walk
begun = record { at = 6; contents = no_contents; control = no_control }

-- what the head at a walk's place makes of it, where o are the octets from there on
unfoldable pub stepped : List ℕ → Walk → Head → Step
stepped o w End = step.End
stepped o w Past = step.Past
stepped o w (SubTlv type start n) =
    step.Halted
    (record {
      at = w.at + (start + n);
      contents = noted_at w.at o w.contents type start n;
      control = kept_behind o w.control type start n;
    })

-- one sub-TLV passed: halted before the next
unfoldable pub passed : Walk → List ℕ → Step
passed w o = stepped o w (head_at o 0)

-- the end of the whole, where o are the octets from a walk's place on
abbrev pub end_of : Walk → List ℕ → ℕ
end_of w o = w.at + length o

-- all passed: 5, at the walk's place, or 6 to 8. Each sub-TLV takes two octets or more, so the length is steps enough.
unfoldable pub finishing : Walk → List ℕ → Step → (Walk → Reading) → Reading
finishing w o step.End next = judged (end_of w o) w.contents w.control
finishing w o step.Past next = Err (rejection PastEnd w.at)
finishing w o (step.Halted v) next = next v

unfoldable pub finish_in : ℕ → Walk → List ℕ → Reading
finish_in zero w o = judged (end_of w o) w.contents w.control
finish_in (suc k) w o = finishing w o (passed w o) (λ v. finish_in k v (drop (v.at - w.at) o))

unfoldable pub finished : Walk → List ℕ → Reading
finished w o = finish_in (length o) w o
