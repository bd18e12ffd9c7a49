-- What is left to check, in the test whether trees are well spaced.
use Rattle.std.proofs.Common.{◌≡◌, ℕ, ◌&&◌, Bool, true, false, List, [], ◌∷◌, refl, sym, ap, ◌∙◌}
use Rattle.std.proofs.Common.{Bor, None, Option, Some, option_copied}
use Rattle.std.specs.List.{slice_get}
use Rattle.lexical.specs.Token.{Token, Name, Mark, Literal}
use Rattle.pm_stream.specs.Forest.{Forest, nil, leaf, group}
use Rattle.pm_stream.specs.InOrder.{token_tree}
use Rattle.pm_stream.specs.Shown.{is_shown}
use Rattle.pm_stream.specs.SpacedTree.{step_fits, tree_fits}
use Rattle.pm_stream.specs.Steps.{Step, Leave, steps, steps_onto}
use Rattle.pm_stream.specs.Trees.{before, forest}
use Rattle.pm_stream.specs.WellSpaced.{fits, next_token, well_spaced}
use Rattle.pm_stream.specs.declared.stream.Group.{Group as Grouped}
use Rattle.pm_stream.specs.declared.stream.TokenTree.{TokenTree}
use Rattle.pm_stream.specs.declared.stream.TokenTree.TheVariants as trees
use Rattle.pm_stream.specs.declared.stream.TokenTree.TheVariants.{Group, Ident, Punct}
use Rattle.pm_stream.proofs.StepLemmas.{PassesOver}

-- whether the steps that are left fit
abbrev pub left_spaced : List Step → Bool
left_spaced [] = true
left_spaced (step ∷ steps) = step_fits step && left_spaced steps

and_assoc : (a b c : Bool) → ((a && b) && c) ≡ (a && (b && c))
and_assoc true b c = refl
and_assoc false b c = refl

token_fits : (token : Token) (lo hi : ℕ) (rest : Forest)
    → tree_fits (token_tree token lo hi) rest ≡ fits token (next_token rest)
token_fits (Name raw name) lo hi rest = refl
token_fits (Mark c true) lo hi rest = refl
token_fits (Mark c false) lo hi rest = refl
token_fits (Literal text) lo hi rest = refl

pub left_spaced-onto : (f : Forest) (more : List Step)
    → left_spaced (steps_onto f more) ≡ (well_spaced f && left_spaced more)
left_spaced-onto nil more = refl
left_spaced-onto (leaf token lo hi rest) more =
    rw (token_fits token lo hi rest)
    (ap (λ b. fits token (next_token rest) && b) (left_spaced-onto rest more)
    ∙ sym (and_assoc (fits token (next_token rest)) (well_spaced rest) (left_spaced more)))
left_spaced-onto (group d lo hi inside rest) more =
    let whole : Grouped = record { delimiter = d; stream = inside; span = record { lo = lo; hi = hi } } in
    ap (λ b. is_shown d && b)
    (left_spaced-onto inside (Leave whole rest ∷ steps_onto rest more)
    ∙ (ap (λ b. well_spaced inside && b) (left_spaced-onto rest more)
    ∙ sym (and_assoc (well_spaced inside) (well_spaced rest) (left_spaced more))))
    ∙ sym (and_assoc (is_shown d) (well_spaced inside && well_spaced rest) (left_spaced more))

and_true : (b : Bool) → (b && true) ≡ b
and_true true = refl
and_true false = refl

-- before the first step, all of the stream is left to check
pub left_spaced-steps : (f : Forest) → left_spaced (steps f) ≡ well_spaced f
left_spaced-steps f = left_spaced-onto f [] ∙ and_true (well_spaced f)

-- a group that is checked by a call of its own, since memory ran out for a step
pub spaced_over : (was old new : List Step) (g : Grouped) (after : Forest) (inside : List TokenTree)
    (shown inner : Bool)
    → old ≡ was → PassesOver old g after new → shown ≡ is_shown g.delimiter → shown ≡ true → forest inside ≡ g.stream
    → inner ≡ well_spaced (forest inside) → left_spaced was ≡ (inner && left_spaced new)
spaced_over was old new g after inside shown inner same over is_group holds into is =
    rw (← same, over, ← is_group, holds, is, into) (left_spaced-onto g.stream (Leave g after ∷ new))

-- ---- the next token

next_before : (t : TokenTree) (rest : Forest) → next_token (before t rest) ≡ next_token (before t nil)
next_before (Group g) rest = refl
next_before (Ident i) rest = refl
next_before (Punct p) rest = refl
next_before (trees.Literal l) rest = refl

-- the first tree is the next token, if it is a token
pub first_is : (ts : List TokenTree) (first : Option (Bor TokenTree)) (x : Bor TokenTree) (t : TokenTree)
    → option_copied first ≡ slice_get ts 0 → first ≡ Some x → x.now ≡ t
    → next_token (forest ts) ≡ next_token (before t nil)
first_is [] first x t value is now =
    let e : ◌≡◌ {A = Option TokenTree} (Some x.now) None = ap option_copied (sym is) ∙ value in absurd cc
first_is (u ∷ ts) first x t value is now =
    let e : ◌≡◌ {A = Option TokenTree} (Some x.now) (Some u) = ap option_copied (sym is) ∙ value in
    let same : u ≡ t = cc in rw same (next_before t (forest ts))
