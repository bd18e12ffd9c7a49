-- A search through trees in reading order, by the steps of a traversal.
use Rattle.std.proofs.Common.{◌≡◌, Option, Some, None, List, [], ◌∷◌, sym, ap, ◌∙◌}
use Rattle.proc_macro2.specs.Steps.{Step}

-- the first result, or the second if there is none
abbrev pub or_else : {A : Type 0} → Option A → Option A → Option A
or_else None later = later
or_else (Some found) later = Some found

-- the result of the first step that has one
abbrev pub first_found : {A : Type 0} → (Step → Option A) → List Step → Option A
first_found look [] = None
first_found look (step ∷ steps) = or_else (look step) (first_found look steps)

pub found_here : {A : Type 0} (look : Step → Option A) (old new : List Step) (step : Step) (x : A)
    → old ≡ step ∷ new → look step ≡ Some x → first_found look old ≡ Some x
found_here look old new step x first here =
    ap (first_found look) first ∙ ap (λ f. or_else f (first_found look new)) here

pub found_later : {A : Type 0} (look : Step → Option A) (old new : List Step) (step : Step)
    → old ≡ step ∷ new → look step ≡ None → first_found look new ≡ first_found look old
found_later look old new step first here =
    sym (ap (first_found look) first ∙ ap (λ f. or_else f (first_found look new)) here)
