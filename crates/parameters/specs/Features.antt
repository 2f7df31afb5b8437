-- The features and their numbers, back from the number to the feature, and a value for each feature.
use Rattle.std.specs.Prelude.{◌≡◌, ℕ, Result, MatchResult}
use Rattle.parameters.specs.declared.Each.{Each}
use Rattle.parameters.specs.declared.Feature.{Feature}
use Rattle.parameters.specs.declared.Feature.TheVariants.{Groups, Flow, Applications}
use Rattle.parameters.specs.declared.UnknownFeature.{UnknownFeature}
use Rattle.parameters.specs.Parameters.{feature_number}

-- the result is the feature with this number, or an error where no feature has it
abbrev pub Numbers : ℕ → Result Feature UnknownFeature → Type 0
Numbers n r = MatchResult r (λ f. n ≡ feature_number f) (λ e. (f : Feature) → n ≡ feature_number f → ⊥)

abbrev pub of_feature : {T : Type 0} → Each T → Feature → T
of_feature e Groups = e.groups
of_feature e Flow = e.flow
of_feature e Applications = e.applications
