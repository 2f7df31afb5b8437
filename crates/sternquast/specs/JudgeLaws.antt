-- Laws of the judge, one for each answer of the code. Assumes nothing.
use Rattle.std.specs.Prelude.{ℕ, ◌≡◌, List, Ok, Err}
use Rattle.std.proofs.Common.{◌∙◌, sym, ap}
use Rattle.tlv.specs.declared.Rejection.{Rejection}
use Rattle.contents.specs.declared.Contents.{Contents}
use Rattle.contents.specs.Contents.{Reading}
use Rattle.tlv.specs.Refusals.{refusal_number}
use Rattle.reading.specs.Promises.{ReadPromise}
use Rattle.sternquast.specs.Judge.{verdict, judged}

module _ {o : List ℕ} {r : Reading} where
  pub judged_refused : {x : Rejection} {n : ℕ} → ReadPromise o r → r ≡ Err x → n ≡ refusal_number x.why
      → record { refusal = n; place = x.place } ≡ judged o
  judged_refused p e n = rw n (ap verdict (sym e ∙ p.is))

  pub judged_accepted : {c : Contents} → ReadPromise o r → r ≡ Ok c → record { refusal = 0; place = 0 } ≡ judged o
  judged_accepted p e = ap verdict (sym e ∙ p.is)
