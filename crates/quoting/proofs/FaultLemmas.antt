-- The search for the `first-fault`.
use Rattle.std.proofs.Common.{◌≡◌, ℕ, ◌==◌, ◌&&◌, Bool, true, false, not, Option, Some, None, List, [], ◌∷◌}
use Rattle.std.proofs.Common.{if◌then◌else◌, refl, sym, ap, ◌∙◌}
use Rattle.proc_macro2.specs.Character.{single_quote}
use Rattle.proc_macro2.specs.Forest.{Forest, nil, leaf, group}
use Rattle.proc_macro2.specs.InOrder.{token_tree}
use Rattle.proc_macro2.specs.Leaf.{mark_token}
use Rattle.proc_macro2.specs.Shown.{is_shown}
use Rattle.proc_macro2.specs.SpacedTree.{step_fits, tree_fits}
use Rattle.proc_macro2.specs.Steps.{Step, Enter, Leave, Token as Past, steps, steps_onto}
use Rattle.proc_macro2.specs.Token.{Token, Name, Mark, Literal}
use Rattle.proc_macro2.specs.WellSpaced.{fits, follows_joint, follows_quote, next_token}
use Rattle.proc_macro2.specs.declared.Group.{Group as Grouped}
use Rattle.proc_macro2.specs.declared.TokenTree.{TokenTree}
use Rattle.proc_macro2.specs.declared.TokenTree.TheVariants.{Group, Ident, Punct, Literal as Text}
use Rattle.pm_stream.proofs.SpacedLemmas.{left_spaced}
use Rattle.quoting.specs.Fault.{IsFaultOf, fault_or, first_fault, may_stand, tree_fault}
use Rattle.quoting.specs.Searched.{step_fault}
use Rattle.quoting.specs.declared.errors.QuoteError.{QuoteError}
use Rattle.quoting.specs.declared.errors.QuoteError.TheVariants.{NoneGroup, LoneQuote, Memory}
use Rattle.quoting.proofs.SearchLemmas.{first_found, or_else}

-- the first error of the steps that are left
abbrev pub left_fault : List Step → Option QuoteError
left_fault = first_found step_fault

if_then_or : (b : Bool) (fault : QuoteError) (later : Option QuoteError)
    → or_else (if b then None else Some fault) later ≡ (if b then later else Some fault)
if_then_or true fault later = refl
if_then_or false fault later = refl

token_fault : (token : Token) (lo hi : ℕ) (rest : Forest) (later : Option QuoteError)
    → or_else (tree_fault (token_tree token lo hi) rest) later
    ≡ (if may_stand token (next_token rest) then later else Some LoneQuote)
token_fault (Name raw name) lo hi rest later = refl
token_fault (Mark c true) lo hi rest later = if_then_or (may_stand (Mark c true) (next_token rest)) LoneQuote later
token_fault (Mark c false) lo hi rest later = if_then_or (may_stand (Mark c false) (next_token rest)) LoneQuote later
token_fault (Literal text) lo hi rest later = refl

left_fault-onto : (f : Forest) (more : List Step) → left_fault (steps_onto f more) ≡ fault_or f (left_fault more)
left_fault-onto nil more = refl
left_fault-onto (leaf token lo hi rest) more =
    token_fault token lo hi rest (left_fault (steps_onto rest more))
    ∙ ap (λ later. if may_stand token (next_token rest) then later else Some LoneQuote) (left_fault-onto rest more)
left_fault-onto (group d lo hi inside rest) more =
    let whole : Grouped = record { delimiter = d; stream = inside; span = record { lo = lo; hi = hi } } in
    if_then_or (is_shown d) NoneGroup (left_fault (steps_onto inside (Leave whole rest ∷ steps_onto rest more)))
    ∙ ap (λ later. if is_shown d then later else Some NoneGroup)
    (left_fault-onto inside (Leave whole rest ∷ steps_onto rest more)
    ∙ ap (fault_or inside) (left_fault-onto rest more))

pub left_fault-steps : (f : Forest) → left_fault (steps f) ≡ first_fault f
left_fault-steps f = left_fault-onto f []

-- ---- the error that is returned

pub fault_is_named : (f : Forest) (fault : QuoteError) → first_fault f ≡ Some fault → IsFaultOf f fault
fault_is_named f NoneGroup h = h
fault_is_named f LoneQuote h = h
fault_is_named f (Memory error) h = tt

-- ---- whether all marks are well spaced

-- one more step, which fits
pub spaced_on : (spaced : Bool) (old new : List Step) (step : Step) → old ≡ step ∷ new → step_fits step ≡ true
    → (spaced && left_spaced new) ≡ (spaced && left_spaced old)
spaced_on true old new step first is = sym (ap left_spaced first ∙ ap (λ b. b && left_spaced new) is)
spaced_on false old new step first is = refl

-- ---- a tree that fits has no error

clean : (b : Bool) (fault : QuoteError) → b ≡ true → ◌≡◌ {A = Option QuoteError} (if b then None else Some fault) None
clean true fault e = refl
clean false fault e = absurd (cc)

stands_joint : (quote follows joins : Bool) → (if quote then follows else joins) ≡ true
    → (if quote then follows else true) ≡ true
stands_joint true follows joins e = e
stands_joint false follows joins e = refl

stands_alone : (quote follows : Bool) → not quote ≡ true → (if quote then follows else true) ≡ true
stands_alone true follows e = absurd (cc)
stands_alone false follows e = refl

may_stand_fitting : (token : Token) (next : Option Token) → fits token next ≡ true → may_stand token next ≡ true
may_stand_fitting (Name raw name) next e = refl
may_stand_fitting (Mark c true) next e =
    stands_joint (c == single_quote) (follows_quote next) (follows_joint c next) e
may_stand_fitting (Mark c false) next e = stands_alone (c == single_quote) (follows_quote next) e
may_stand_fitting (Literal text) next e = refl

tree_clean : (tree : TokenTree) (rest : Forest) → tree_fits tree rest ≡ true → tree_fault tree rest ≡ None
tree_clean (Group g) rest e = clean (is_shown g.delimiter) NoneGroup e
tree_clean (Ident i) rest e = refl
tree_clean (Punct p) rest e =
    clean (may_stand (mark_token p) (next_token rest)) LoneQuote
    (may_stand_fitting (mark_token p) (next_token rest) e)
tree_clean (Text l) rest e = refl

pub step_clean : (step : Step) → step_fits step ≡ true → step_fault step ≡ None
step_clean (Enter g after) e = tree_clean (Group g) after e
step_clean (Leave g after) e = refl
step_clean (Past tree after) e = tree_clean tree after e
