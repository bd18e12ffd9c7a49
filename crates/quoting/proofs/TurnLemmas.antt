-- The count of a repetition's turns, and the loop that fills them.
use Rattle.std.proofs.Common.{◌≡◌, Bor, ℕ, zero, suc, ◌+◌, ◌-◌, ◌≤◌, ◌<◌, ◌++◌, ◌==◌, Bool, true, false}
use Rattle.std.proofs.Common.{if◌then◌else◌, Option, Some, None, Ok, Err, List, [], ◌∷◌, length, length-append}
use Rattle.std.proofs.Common.{refl, sym, ap, ap₂, subst, ◌∙◌, arith}
use Rattle.proc_macro2.specs.Extent.{Extent}
use Rattle.proc_macro2.specs.Forest.{Forest, nil, leaf, group, chain}
use Rattle.proc_macro2.specs.declared.ParseError.{ParseError}
use Rattle.proc_macro2.specs.Leaf.{Mark}
use Rattle.proc_macro2.specs.InOrder.{token_tree}
use Rattle.proc_macro2.specs.Steps.{Step, Leave, steps, steps_onto}
use Rattle.proc_macro2.specs.Token as tokens
use Rattle.proc_macro2.specs.Token.{Token, Name}
use Rattle.proc_macro2.specs.declared.Group.{Group as Grouped}
use Rattle.quoting.specs.Filled.{before_turn, comes, depth_limit, filled_by, then_outcome, turns_outcome, turns_from}
use Rattle.quoting.specs.Filled.{unless_fault}
use Rattle.quoting.specs.Given.{UnlessMemory, gives, in_turns, repeats_of, separator_of, interpolation_of}
use Rattle.quoting.specs.Given.{named_all}
use Rattle.quoting.specs.Holes.{Named, Outcome, all_in_turn, filling_of, list_length}
use Rattle.quoting.specs.Items.{Filling}
use Rattle.quoting.specs.Interpolation.{Interpolation, Names, Repeats, interpolation}
use Rattle.quoting.specs.Turns.{Check, and_then, check_turns, interpolation_checked, length_checked, name_checked}
use Rattle.quoting.specs.Turns.{named_length, or_else, turns_of, turns_or}
use Rattle.quoting.specs.Searched.{step_turns}
use Rattle.quoting.specs.declared.errors.TemplateError.{TemplateError}
use Rattle.quoting.specs.declared.errors.TemplateError.TheVariants.{NoHole, LoneList, NoList, UnequalLists}
use Rattle.quoting.specs.declared.errors.TemplateError.TheVariants.{NotIdent, NotFinite, TooDeep, Parse, Memory}
use Rattle.quoting.specs.declared.holes.Hole.{Hole}
use Rattle.quoting.specs.declared.interpolation.Repetition.{Repetition}
use Rattle.quoting.proofs.ItemLemmas.{in_all_more}
use Rattle.quoting.proofs.SearchLemmas as search
use Rattle.quoting.proofs.SearchLemmas.{first_found}
use Rattle.quoting.proofs.PartLemmas.{joined_assoc, joined_nil}
use Rattle.quoting.proofs.FillLemmas.{followed_more}

-- ---- the count of turns

-- the number of turns by the steps that are left
abbrev pub left_turns : List Named → List Step → Option ℕ
left_turns holes = first_found (step_turns holes)

token_interpolation : (token : Token) (lo hi : ℕ) (rest : Forest)
    → interpolation_of (token_tree token lo hi) rest ≡ interpolation token rest
token_interpolation (Name raw name) lo hi rest = refl
token_interpolation (tokens.Mark c true) lo hi rest = refl
token_interpolation (tokens.Mark c false) lo hi rest = refl
token_interpolation (tokens.Literal text) lo hi rest = refl

same_else : (x y : Option ℕ) → search.or_else x y ≡ or_else x y
same_else None y = refl
same_else (Some n) y = refl

left_turns-onto : (holes : List Named) (f : Forest) (more : List Step)
    → left_turns holes (steps_onto f more) ≡ turns_or holes f (left_turns holes more)
left_turns-onto holes nil more = refl
left_turns-onto holes (leaf token lo hi rest) more =
    rw (token_interpolation token lo hi rest)
    (same_else (named_length holes (interpolation token rest)) (left_turns holes (steps_onto rest more))
    ∙ ap (or_else (named_length holes (interpolation token rest))) (left_turns-onto holes rest more))
left_turns-onto holes (group d lo hi inside rest) more =
    let whole : Grouped = record { delimiter = d; stream = inside; span = record { lo = lo; hi = hi } } in
    left_turns-onto holes inside (Leave whole rest ∷ steps_onto rest more)
    ∙ ap (turns_or holes inside) (left_turns-onto holes rest more)

pub left_turns-steps : (holes : List Named) (f : Forest) → left_turns holes (steps f) ≡ turns_of holes f
left_turns-steps holes f = left_turns-onto holes f []

-- ---- the loop that fills the turns

-- the outcome of all turns is the trees so far, followed by the turns from the given one on
abbrev pub TurnsOn : (ℕ → Outcome) → Forest → Outcome → Forest → ℕ → ℕ → Type 0
TurnsOn given between all out turn end = all ≡ then_outcome (Ok out) (turns_from given between turn (end - turn))

pub turns_begun : (given : ℕ → Outcome) (between out : Forest) (end : ℕ)
    → TurnsOn given between (then_outcome (Ok out) (turns_from given between 0 end)) out 0 end
turns_begun given between out end =
    let all : end ≡ end - 0 = omega arith in
    ap (λ n. then_outcome (Ok out) (turns_from given between 0 n)) all

one_more : (turn end : ℕ) → turn < end → end - turn ≡ suc (end - suc turn)
one_more turn end within = omega (arith, within)

pub turn_more : (given : ℕ → Outcome) (between : Forest) (all : Outcome) (out new part : Forest) (turn end : ℕ)
    → TurnsOn given between all out turn end → turn < end → given turn ≡ Ok part
    → new ≡ chain (chain out (before_turn between turn)) part → TurnsOn given between all new (turn + 1) end
turn_more given between all out new part turn end so_far within gives put =
    let later = turns_from given between (suc turn) (end - suc turn) in
    let next : suc turn ≡ turn + 1 = omega arith in
    subst (λ n. TurnsOn given between all new n end) next
    (so_far
    ∙ (ap (λ n. then_outcome (Ok out) (turns_from given between turn n)) (one_more turn end within)
    ∙ (ap (λ o. then_outcome (Ok out) (then_outcome (then_outcome (Ok (before_turn between turn)) o) later)) gives
    ∙ (followed_more out (chain (before_turn between turn) part) later
    ∙ ap (λ f. then_outcome (Ok f) later) (sym (joined_assoc out (before_turn between turn) part) ∙ sym put)))))

pub turn_fault : (given : ℕ → Outcome) (between : Forest) (all : Outcome) (out : Forest) (fault : TemplateError)
    (turn end : ℕ)
    → TurnsOn given between all out turn end → turn < end → given turn ≡ Err fault → all ≡ Err fault
turn_fault given between all out fault turn end so_far within gives =
    so_far
    ∙ (ap (λ n. then_outcome (Ok out) (turns_from given between turn n)) (one_more turn end within)
    ∙ ap (λ o. then_outcome (Ok out)
    (then_outcome (then_outcome (Ok (before_turn between turn)) o)
    (turns_from given between (suc turn) (end - suc turn))))
    gives)

pub turns_ended : (given : ℕ → Outcome) (between : Forest) (all : Outcome) (out : Forest) (turn end : ℕ)
    → TurnsOn given between all out turn end → turn ≡ end → all ≡ Ok out
turns_ended given between all out turn end so_far same =
    let none : end - turn ≡ 0 = omega (arith, same) in
    so_far ∙ (ap (λ n. then_outcome (Ok out) (turns_from given between turn n)) none ∙ ap Ok (joined_nil out))

-- ---- repetitions

-- the outcome of one turn of a body, inside the given turns
abbrev pub turn_of : List Hole → List ℕ → ℕ → Forest → ℕ → Outcome
turn_of holes turns inner body = λ turn. filled_by (gives holes (turns ++ turn ∷ [])) inner 0 body

pub before_none : (turn : ℕ) → before_turn nil turn ≡ nil
before_none zero = refl
before_none (suc turn) = refl

-- before the first turn, or without a separator, nothing is added
pub nothing_between : (stream between : Forest) (turn : ℕ) → turn ≡ 0
    → stream ≡ chain stream (before_turn between turn)
nothing_between stream between zero none = sym (joined_nil stream)
nothing_between stream between (suc turn) none = absurd (omega (arith, none))

pub no_separator : (stream : Forest) (separator : Option (Bor Mark)) (turn : ℕ) → separator ≡ None
    → stream ≡ chain stream (before_turn (separator_of separator) turn)
no_separator stream separator turn none =
    sym (ap (λ s. chain stream (before_turn (separator_of s) turn)) none
    ∙ (ap (chain stream) (before_none turn) ∙ joined_nil stream))

-- `gives` inside one more repetition, in a turn of it
turn_given : (holes : List Hole) (turns : List ℕ) (turn : ℕ) → length turns < depth_limit
    → gives holes (turns ++ turn ∷ [])
    ≡ comes (depth_limit - suc (length turns)) (all_in_turn turn (in_turns holes turns))
turn_given holes turns turn few =
    let more : length (turns ++ turn ∷ []) ≡ suc (length turns) = omega (arith, length-append turns (turn ∷ [])) in
    ap₂ (λ n hs. comes (depth_limit - n) hs) more (in_all_more turns turn (named_all holes))

limit_left : (n : ℕ) → n < depth_limit → depth_limit - n ≡ suc (depth_limit - suc n)
limit_left n few = omega (arith, few)

-- a repetition is its turns if the check of its body succeeds
checked_turns : (holes : List Hole) (turns : List ℕ) (depth inner count : ℕ) (repetition : Repetition)
    (trees : Forest)
    → length turns + depth ≤ depth_limit → depth ≡ suc inner → trees ≡ repetition.body.now.stream
    → turns_of (in_turns holes turns) trees ≡ Some count
    → gives holes turns depth (repeats_of repetition)
    ≡ unless_fault (turn_of holes turns inner repetition.body.now.stream) (separator_of repetition.separator) count
    (check_turns (in_turns holes turns) inner count trees)
checked_turns holes turns depth inner count repetition trees few deep whole counts =
    let body = repetition.body.now in
    let between = separator_of repetition.separator in
    let here = in_turns holes turns in
    let room : length turns < depth_limit = omega (arith, few, deep) in
    let more = depth_limit - suc (length turns) in
    let plain : ℕ → Outcome = λ turn. filled_by (comes more (all_in_turn turn here)) inner 0 body.stream in
    ap₂ (λ n d. comes n here d (repeats_of repetition)) (limit_left (length turns) room) deep
    ∙ (ap (turns_outcome here plain inner body.stream body.span between)
    (ap (turns_of here) (sym whole) ∙ counts)
    ∙ (ap (λ f. unless_fault plain between count (check_turns here inner count f)) (sym whole)
    ∙ ap (λ (f : ℕ → Outcome). unless_fault f between count (check_turns here inner count trees))
    (λ i turn. filled_by (sym (turn_given holes turns turn room) i) inner 0 body.stream)))

pub all_turns : (holes : List Hole) (turns : List ℕ) (depth inner count : ℕ) (repetition : Repetition) (trees : Forest)
    → length turns + depth ≤ depth_limit → depth ≡ suc inner → trees ≡ repetition.body.now.stream
    → turns_of (in_turns holes turns) trees ≡ Some count → check_turns (in_turns holes turns) inner count trees ≡ Ok tt
    → gives holes turns depth (repeats_of repetition)
    ≡ turns_from (turn_of holes turns inner repetition.body.now.stream) (separator_of repetition.separator) 0 count
all_turns holes turns depth inner count repetition trees few deep whole counts checks =
    checked_turns holes turns depth inner count repetition trees few deep whole counts
    ∙ ap (unless_fault (turn_of holes turns inner repetition.body.now.stream) (separator_of repetition.separator) count)
    checks

-- a repetition that names no list or is nested too deep is an error
pub no_list : (holes : List Hole) (turns : List ℕ) (depth inner : ℕ) (repetition : Repetition) (trees : Forest)
    → length turns + depth ≤ depth_limit → depth ≡ suc inner → trees ≡ repetition.body.now.stream
    → turns_of (in_turns holes turns) trees ≡ None
    → gives holes turns depth (repeats_of repetition) ≡ Err (NoList repetition.body.now.span)
no_list holes turns depth inner repetition trees few deep whole counts =
    let body = repetition.body.now in
    let between = separator_of repetition.separator in
    let here = in_turns holes turns in
    let room : length turns < depth_limit = omega (arith, few, deep) in
    let more = depth_limit - suc (length turns) in
    let plain : ℕ → Outcome = λ turn. filled_by (comes more (all_in_turn turn here)) inner 0 body.stream in
    ap₂ (λ n d. comes n here d (repeats_of repetition)) (limit_left (length turns) room) deep
    ∙ ap (turns_outcome here plain inner body.stream body.span between) (ap (turns_of here) (sym whole) ∙ counts)

too_deep_by : (more : ℕ) (here : List Named) (repetition : Repetition)
    → comes more here 0 (repeats_of repetition) ≡ Err (TooDeep repetition.body.now.span)
too_deep_by zero here repetition = refl
too_deep_by (suc more) here repetition = refl

pub too_deep : (holes : List Hole) (turns : List ℕ) (depth : ℕ) (repetition : Repetition) → depth ≡ 0
    → gives holes turns depth (repeats_of repetition) ≡ Err (TooDeep repetition.body.now.span)
too_deep holes turns depth repetition none =
    ap (λ d. gives holes turns d (repeats_of repetition)) none
    ∙ too_deep_by (depth_limit - length turns) (in_turns holes turns) repetition

-- ---- an error of the check is an error of the template

-- the check of a list's length, by whether it is the number of turns
abbrev same_length : Bool → Extent → Check
same_length b span = if b then Ok tt else Err (UnequalLists span)

same_parses : (b : Bool) (span : Extent) (error : ParseError) → same_length b span ≡ Err (Parse error) → ⊥
same_parses true span error h = absurd (cc)
same_parses false span error h = absurd (cc)

length_parses : (turns : ℕ) (span : Extent) (n : Option ℕ) (error : ParseError)
    → length_checked turns span n ≡ Err (Parse error) → ⊥
length_parses turns span None error h = absurd (cc)
length_parses turns span (Some n) error h = same_parses (n == turns) span error h

name_parses : (turns : ℕ) (span : Extent) (filling : Option Filling) (error : ParseError)
    → name_checked turns span filling ≡ Err (Parse error) → ⊥
name_parses turns span None error h = absurd (cc)
name_parses turns span (Some filling) error h = length_parses turns span (list_length (Some filling)) error h

interpolation_parses : (holes : List Named) (turns : ℕ) (s : Option Interpolation) (error : ParseError)
    → interpolation_checked holes turns s ≡ Err (Parse error) → ⊥
interpolation_parses holes turns None error h = absurd (cc)
interpolation_parses holes turns (Some (Names name span)) error h =
    name_parses turns span (filling_of holes name) error h
interpolation_parses holes turns (Some (Repeats body span between)) error h = absurd (cc)

both_parse : (first more : Check) (error : ParseError) → (first ≡ Err (Parse error) → ⊥)
    → (more ≡ Err (Parse error) → ⊥) → and_then first more ≡ Err (Parse error) → ⊥
both_parse (Err fault) more error first_parses more_parses h = first_parses h
both_parse (Ok done) more error first_parses more_parses h = more_parses h

body_parses : (holes : List Named) (depth turns : ℕ) (body : Forest) (error : ParseError)
    → check_turns holes depth turns body ≡ Err (Parse error) → ⊥
body_parses holes depth turns nil error h = absurd (cc)
body_parses holes depth turns (leaf token lo hi rest) error h =
    both_parse (interpolation_checked holes turns (interpolation token rest)) (check_turns holes depth turns rest) error
    (interpolation_parses holes turns (interpolation token rest) error)
    (body_parses holes depth turns rest error) h
body_parses holes zero turns (group d lo hi inside rest) error h = absurd (cc)
body_parses holes (suc depth) turns (group d lo hi inside rest) error h =
    both_parse (check_turns holes depth turns inside) (check_turns holes (suc depth) turns rest) error
    (body_parses holes depth turns inside error) (body_parses holes (suc depth) turns rest error) h

of_template : (fault : TemplateError) (P : Type 0) → ((error : ParseError) → fault ≡ Parse error → ⊥) → P
    → UnlessMemory fault P
of_template (NoHole span) P other h = h
of_template (LoneList span) P other h = h
of_template (NoList span) P other h = h
of_template (UnequalLists span) P other h = h
of_template (NotIdent span) P other h = h
of_template (NotFinite span) P other h = h
of_template (TooDeep span) P other h = h
of_template (Parse error) P other h = absurd (other error refl)
of_template (Memory error) P other h = tt

pub checked_fault : (holes : List Hole) (turns : List ℕ) (depth inner count : ℕ) (repetition : Repetition)
    (trees : Forest) (fault : TemplateError)
    → length turns + depth ≤ depth_limit → depth ≡ suc inner → trees ≡ repetition.body.now.stream
    → turns_of (in_turns holes turns) trees ≡ Some count
    → check_turns (in_turns holes turns) inner count trees ≡ Err fault
    → UnlessMemory fault (gives holes turns depth (repeats_of repetition) ≡ Err fault)
checked_fault holes turns depth inner count repetition trees fault few deep whole counts checks =
    of_template fault _ (λ error is. body_parses (in_turns holes turns) inner count trees error (checks ∙ ap Err is))
    (checked_turns holes turns depth inner count repetition trees few deep whole counts
    ∙ ap (unless_fault (turn_of holes turns inner repetition.body.now.stream) (separator_of repetition.separator) count)
    checks)
