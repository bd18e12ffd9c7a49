-- The laws of respacing, proved.
use Rattle.std.proofs.Common.{◌≡◌, ◌==◌, ℕ, Bool, true, false, not, ◌&&◌, Option, Some, None, List, [], if◌then◌else◌}
use Rattle.std.proofs.Common.{refl, sym, ap, ap₂, ◌∙◌}
use Rattle.std.proofs.lemmas.Bool.{and_from, and_parts, both_ways}
use Rattle.proc_macro2.specs.Character.{single_quote}
use Rattle.proc_macro2.specs.Forest.{Forest, nil, leaf, group}
use Rattle.proc_macro2.specs.Shown.{is_shown}
use Rattle.proc_macro2.specs.Token.{Token, Name, Mark, Literal}
use Rattle.proc_macro2.specs.WellSpaced.{fits, follows_joint, follows_quote, next_token, well_spaced, IsWellSpaced}
use Rattle.quoting.specs.Choice.{IsHopeless, KeepsAllItMay, KeepsThose, spacing_onto, spacings_onto, all_alone}
use Rattle.quoting.specs.Choice.{unspaced_token}
use Rattle.quoting.specs.Fault.{fault_or, first_fault, may_stand}
use Rattle.quoting.specs.Respaced.{is_kept_joint, respace_marks, respaced_token}
use Rattle.quoting.specs.declared.errors.QuoteError.{QuoteError}
use Rattle.quoting.specs.declared.errors.QuoteError.TheVariants.{NoneGroup, LoneQuote}

-- ---- the token after a mark, spacings aside

quote_unspaced : (f : Forest) → follows_quote (next_token (all_alone f)) ≡ follows_quote (next_token f)
quote_unspaced nil = refl
quote_unspaced (leaf (Name raw name) lo hi f) = refl
quote_unspaced (leaf (Mark c joint) lo hi f) = refl
quote_unspaced (leaf (Literal text) lo hi f) = refl
quote_unspaced (group d lo hi f g) = refl

joint_unspaced : (c : ℕ) (f : Forest) → follows_joint c (next_token (all_alone f)) ≡ follows_joint c (next_token f)
joint_unspaced c nil = refl
joint_unspaced c (leaf (Name raw name) lo hi f) = refl
joint_unspaced c (leaf (Mark d joint) lo hi f) = refl
joint_unspaced c (leaf (Literal text) lo hi f) = refl
joint_unspaced c (group d lo hi f g) = refl

-- respacing changes spacings only
pub only_spacing : (f : Forest) → all_alone (respace_marks f) ≡ all_alone f
only_spacing nil = refl
only_spacing (leaf (Name raw name) lo hi f) = ap (leaf (Name raw name) lo hi) (only_spacing f)
only_spacing (leaf (Mark c joint) lo hi f) = ap (leaf (Mark c false) lo hi) (only_spacing f)
only_spacing (leaf (Literal text) lo hi f) = ap (leaf (Literal text) lo hi) (only_spacing f)
only_spacing (group d lo hi f g) = ap₂ (group d lo hi) (only_spacing f) (only_spacing g)

same_quote : (f g : Forest) → all_alone g ≡ all_alone f → follows_quote (next_token g) ≡ follows_quote (next_token f)
same_quote f g e = sym (quote_unspaced g) ∙ (ap (λ x. follows_quote (next_token x)) e ∙ quote_unspaced f)

same_joint : (c : ℕ) (f g : Forest) → all_alone g ≡ all_alone f
    → follows_joint c (next_token g) ≡ follows_joint c (next_token f)
same_joint c f g e = sym (joint_unspaced c g) ∙ (ap (λ x. follows_joint c (next_token x)) e ∙ joint_unspaced c f)

-- ---- one mark

-- whether a mark fits: is it `'`, is it Joint, and may the next token follow a `'`, or follow this mark if it is Joint
abbrev fits_as : Bool → Bool → Bool → Bool → Bool
fits_as is_quote joint quotes joins = if joint then (if is_quote then quotes else joins) else not is_quote

-- whether the mark is Joint after respacing
abbrev kept_as : Bool → Bool → Bool → Bool
kept_as is_quote joint joins = if is_quote then true else (joint && joins)

fits_by : (c : ℕ) (joint : Bool) (next : Option Token)
    → fits (Mark c joint) next ≡ fits_as (c == single_quote) joint (follows_quote next) (follows_joint c next)
fits_by c true next = refl
fits_by c false next = refl

-- a respaced mark fits
respaced_as : (q joint quotes joins : Bool) → (if q then quotes else true) ≡ true
    → fits_as q (kept_as q joint joins) quotes joins ≡ true
respaced_as true joint quotes joins h = h
respaced_as false true quotes true h = refl
respaced_as false true quotes false h = refl
respaced_as false false quotes joins h = refl

-- a mark that fits with some spacing has no error
stands_as : (q joint quotes joins : Bool) → fits_as q joint quotes joins ≡ true → (if q then quotes else true) ≡ true
stands_as true true quotes joins h = h
stands_as true false quotes joins h = absurd (both_ways _ refl h)
stands_as false joint quotes joins h = refl

-- respacing does not change a mark that fits
stays_as : (q joint quotes joins : Bool) → fits_as q joint quotes joins ≡ true → kept_as q joint joins ≡ joint
stays_as true true quotes joins h = refl
stays_as true false quotes joins h = absurd (both_ways _ refl h)
stays_as false true quotes joins h = h
stays_as false false quotes joins h = refl

-- ---- one token

respaced_fits : (t : Token) (f : Forest) → may_stand t (next_token f) ≡ true
    → fits (respaced_token t (next_token f)) (next_token (respace_marks f)) ≡ true
respaced_fits (Name raw name) f h = refl
respaced_fits (Literal text) f h = refl
respaced_fits (Mark c joint) f h =
    let kept = is_kept_joint c joint (next_token f) in
    fits_by c kept (next_token (respace_marks f))
    ∙ (ap₂ (λ x y. fits_as (c == single_quote) kept x y) (same_quote f (respace_marks f) (only_spacing f))
    (same_joint c f (respace_marks f) (only_spacing f))
    ∙ respaced_as (c == single_quote) joint (follows_quote (next_token f)) (follows_joint c (next_token f)) h)

-- a mark that fits in a choice of spacings fits with that spacing in the stream too
chosen_fits : (c d : ℕ) (joint : Bool) (f g : Forest) → d ≡ c → all_alone g ≡ all_alone f
    → fits (Mark d joint) (next_token g) ≡ true
    → fits_as (c == single_quote) joint (follows_quote (next_token f)) (follows_joint c (next_token f)) ≡ true
chosen_fits c d joint f g same e h =
    sym (ap₂ (λ x y. fits_as (c == single_quote) joint x y) (same_quote f g e) (same_joint c f g e))
    ∙ (sym (fits_by c joint (next_token g)) ∙ (ap (λ x. fits (Mark x joint) (next_token g)) (sym same) ∙ h))

may_stand_if : (t u : Token) (f g : Forest) → unspaced_token u ≡ unspaced_token t → all_alone g ≡ all_alone f
    → fits u (next_token g) ≡ true → may_stand t (next_token f) ≡ true
may_stand_if (Name raw name) u f g same e h = refl
may_stand_if (Literal text) u f g same e h = refl
may_stand_if (Mark c joint) (Name raw name) f g same e h = absurd (cc)
may_stand_if (Mark c joint) (Literal text) f g same e h = absurd (cc)
may_stand_if (Mark c joint) (Mark d chosen) f g same e h =
    let mark : d ≡ c = cc in
    stands_as (c == single_quote) chosen (follows_quote (next_token f)) (follows_joint c (next_token f))
    (chosen_fits c d chosen f g mark e h)

fits_unchanged : (t : Token) (next : Option Token) → fits t next ≡ true → respaced_token t next ≡ t
fits_unchanged (Name raw name) next h = refl
fits_unchanged (Literal text) next h = refl
fits_unchanged (Mark c joint) next h =
    ap (Mark c) (stays_as (c == single_quote) joint (follows_quote next) (follows_joint c next)
    (sym (fits_by c joint next) ∙ h))

keeps_token : (t u : Token) (f g : Forest) (olds chosens news : List Bool) → unspaced_token u ≡ unspaced_token t
    → all_alone g ≡ all_alone f → fits u (next_token g) ≡ true → KeepsThose olds chosens news
    → KeepsThose (spacing_onto t olds) (spacing_onto u chosens) (spacing_onto (respaced_token t (next_token f)) news)
keeps_token (Name raw name) (Name r n) f g olds chosens news same e h more = more
keeps_token (Name raw name) (Mark d chosen) f g olds chosens news same e h more = absurd (cc)
keeps_token (Name raw name) (Literal text) f g olds chosens news same e h more = absurd (cc)
keeps_token (Literal text) (Name r n) f g olds chosens news same e h more = absurd (cc)
keeps_token (Literal text) (Mark d chosen) f g olds chosens news same e h more = absurd (cc)
keeps_token (Literal text) (Literal other) f g olds chosens news same e h more = more
keeps_token (Mark c joint) (Name r n) f g olds chosens news same e h more = absurd (cc)
keeps_token (Mark c joint) (Literal text) f g olds chosens news same e h more = absurd (cc)
keeps_token (Mark c joint) (Mark d chosen) f g olds chosens news same e h more =
    let mark : d ≡ c = cc in (
      λ kept. stays_as (c == single_quote) joint (follows_quote (next_token f)) (follows_joint c (next_token f))
          (chosen_fits c d joint f g mark e (ap (λ b. fits (Mark d b) (next_token g)) (sym kept) ∙ h)),
      more,
    )

-- ---- streams

-- if some choice of spacings is well spaced, there is no `first-fault`
no_fault : (f g : Forest) (after : Option QuoteError) → all_alone g ≡ all_alone f → well_spaced g ≡ true
    → fault_or f after ≡ after
no_fault nil nil after e w = refl
no_fault nil (leaf u l h g) after e w = absurd (cc)
no_fault nil (group d l h g k) after e w = absurd (cc)
no_fault (leaf t lo hi f) nil after e w = absurd (cc)
no_fault (leaf t lo hi f) (group d l h g k) after e w = absurd (cc)
no_fault (group d lo hi f k) nil after e w = absurd (cc)
no_fault (group d lo hi f k) (leaf u l h g) after e w = absurd (cc)
no_fault (leaf t lo hi f) (leaf u l h g) after e w =
    let same : unspaced_token u ≡ unspaced_token t = cc in
    let rest : all_alone g ≡ all_alone f = cc in
    let parts = and_parts _ _ w in
    ap (λ b. if b then fault_or f after else Some LoneQuote) (may_stand_if t u f g same rest parts.0)
    ∙ no_fault f g after rest parts.1
no_fault (group d lo hi f k) (group c l h g m) after e w =
    let kind : c ≡ d = cc in
    let inside : all_alone g ≡ all_alone f = cc in
    let rest : all_alone m ≡ all_alone k = cc in
    let parts = and_parts _ _ w in
    let more = and_parts _ _ parts.1 in
    ap (λ b. if b then fault_or f (fault_or k after) else Some NoneGroup) (ap is_shown (sym kind) ∙ parts.0)
    ∙ (no_fault f g (fault_or k after) inside more.0 ∙ no_fault k m after rest more.1)

pub hopeless : (f : Forest) (fault : QuoteError) → first_fault f ≡ Some fault → IsHopeless f
hopeless f fault is g e w =
    let none : None ≡ Some fault = sym (no_fault f g None e w) ∙ is in
    absurd (cc)

passes : (b : Bool) (x : Option QuoteError) (y : QuoteError) → (if b then x else Some y) ≡ None
    → (b ≡ true) × (x ≡ None)
passes true x y h = (refl, h)
passes false x y h = absurd (cc)

-- a respaced stream without a `first-fault` is well spaced
spaced_or : (f : Forest) (after : Option QuoteError) → fault_or f after ≡ None
    → (well_spaced (respace_marks f) ≡ true) × (after ≡ None)
spaced_or nil after h = (refl, h)
spaced_or (leaf t lo hi f) after h =
    let here = passes (may_stand t (next_token f)) (fault_or f after) LoneQuote h in
    let more = spaced_or f after here.1 in
    (and_from _ _ (respaced_fits t f here.0) more.0, more.1)
spaced_or (group d lo hi f k) after h =
    let here = passes (is_shown d) (fault_or f (fault_or k after)) NoneGroup h in
    let inside = spaced_or f (fault_or k after) here.1 in
    let more = spaced_or k after inside.1 in
    (and_from _ _ here.0 (and_from _ _ inside.0 more.0), more.1)

pub respace_spaces : (f : Forest) → first_fault f ≡ None → IsWellSpaced (respace_marks f)
respace_spaces f h = (spaced_or f None h).0

-- a mark keeps its spacing if some well spaced choice of spacings keeps it
keeps_onto : (f g : Forest) (olds chosens news : List Bool) → all_alone g ≡ all_alone f → well_spaced g ≡ true
    → KeepsThose olds chosens news
    → KeepsThose (spacings_onto f olds) (spacings_onto g chosens) (spacings_onto (respace_marks f) news)
keeps_onto nil nil olds chosens news e w more = more
keeps_onto nil (leaf u l h g) olds chosens news e w more = absurd (cc)
keeps_onto nil (group d l h g k) olds chosens news e w more = absurd (cc)
keeps_onto (leaf t lo hi f) nil olds chosens news e w more = absurd (cc)
keeps_onto (leaf t lo hi f) (group d l h g k) olds chosens news e w more = absurd (cc)
keeps_onto (group d lo hi f k) nil olds chosens news e w more = absurd (cc)
keeps_onto (group d lo hi f k) (leaf u l h g) olds chosens news e w more = absurd (cc)
keeps_onto (leaf t lo hi f) (leaf u l h g) olds chosens news e w more =
    let same : unspaced_token u ≡ unspaced_token t = cc in
    let rest : all_alone g ≡ all_alone f = cc in
    let parts = and_parts _ _ w in
    keeps_token t u f g (spacings_onto f olds) (spacings_onto g chosens)
    (spacings_onto (respace_marks f) news) same rest parts.0
    (keeps_onto f g olds chosens news rest parts.1 more)
keeps_onto (group d lo hi f k) (group c l h g m) olds chosens news e w more =
    let inside : all_alone g ≡ all_alone f = cc in
    let rest : all_alone m ≡ all_alone k = cc in
    let parts = and_parts _ _ w in
    let both = and_parts _ _ parts.1 in
    keeps_onto f g (spacings_onto k olds) (spacings_onto m chosens) (spacings_onto (respace_marks k) news) inside both.0
    (keeps_onto k m olds chosens news rest both.1 more)

pub keeps : (f : Forest) → KeepsAllItMay f (respace_marks f)
keeps f g e w = keeps_onto f g [] [] [] e w tt

-- respacing does not change a well spaced stream
pub respacing_unchanged : (f : Forest) → IsWellSpaced f → respace_marks f ≡ f
respacing_unchanged nil w = refl
respacing_unchanged (leaf t lo hi f) w =
    let parts = and_parts _ _ w in
    ap₂ (λ x y. leaf x lo hi y) (fits_unchanged t (next_token f) parts.0) (respacing_unchanged f parts.1)
respacing_unchanged (group d lo hi f k) w =
    let parts = and_parts _ _ w in
    let both = and_parts _ _ parts.1 in
    ap₂ (group d lo hi) (respacing_unchanged f both.0) (respacing_unchanged k both.1)
