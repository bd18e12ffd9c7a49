-- The laws of joining, proved.
use Rattle.std.proofs.Common.{◌≡◌, ◌==◌, ℕ, Bool, true, false, not, ◌&&◌, ◌||◌, Option, List, [], ◌∷◌}
use Rattle.std.proofs.Common.{if◌then◌else◌, refl, sym, ap, ap₂, ◌∙◌}
use Rattle.std.proofs.lemmas.Bool.{and_from, and_parts, false≢true}
use Rattle.proc_macro2.specs.Character.{single_quote}
use Rattle.proc_macro2.specs.Front.{begins_any}
use Rattle.proc_macro2.specs.Mark.{comment_fronts}
use Rattle.proc_macro2.specs.Forest.{Forest, nil, leaf, group}
use Rattle.proc_macro2.specs.Token.{Token, Name, Mark, Literal}
use Rattle.proc_macro2.specs.WellSpaced.{fits, follows_joint, follows_quote, next_token, well_spaced, IsWellSpaced}
use Rattle.quoting.specs.Choice.{all_alone, unspaced_token}
use Rattle.quoting.specs.Joined.{first_want, joined, joined_token, may_join, past_stream}
use Rattle.quoting.specs.Joined.{operator_fronts, past_token}

-- ---- only spacings change

unspaced_joined : (want : Bool) (t : Token) (next : Option Token)
    → unspaced_token (joined_token want t next) ≡ unspaced_token t
unspaced_joined want (Name raw name) next = refl
unspaced_joined want (Mark c joint) next = refl
unspaced_joined want (Literal text) next = refl

pub only_spacing : (ws : List Bool) (f : Forest) → all_alone (joined ws f) ≡ all_alone f
only_spacing ws nil = refl
only_spacing ws (leaf t lo hi f) =
    ap₂ (λ u g. leaf u lo hi g) (unspaced_joined (first_want ws) t (next_token f)) (only_spacing (past_token t ws) f)
only_spacing ws (group d lo hi f g) =
    ap₂ (group d lo hi) (only_spacing ws f) (only_spacing (past_stream f ws) g)

-- ---- nothing is wanted

none_past_token : (t : Token) → past_token t [] ≡ []
none_past_token (Name raw name) = refl
none_past_token (Mark c joint) = refl
none_past_token (Literal text) = refl

none_past : (f : Forest) → past_stream f [] ≡ []
none_past nil = refl
none_past (leaf t lo hi f) = ap (past_stream f) (none_past_token t) ∙ none_past f
none_past (group d lo hi f g) = ap (past_stream g) (none_past f) ∙ none_past g

or_false : (b : Bool) → (b || false) ≡ b
or_false true = refl
or_false false = refl

unwanted : (t : Token) (next : Option Token) → joined_token false t next ≡ t
unwanted (Name raw name) next = refl
unwanted (Mark c joint) next = ap (Mark c) (or_false joint)
unwanted (Literal text) next = refl

pub nothing_wanted : (f : Forest) → joined [] f ≡ f
nothing_wanted nil = refl
nothing_wanted (leaf t lo hi f) =
    ap₂ (λ u g. leaf u lo hi g) (unwanted t (next_token f))
    (ap (λ ws. joined ws f) (none_past_token t) ∙ nothing_wanted f)
nothing_wanted (group d lo hi f g) =
    ap₂ (group d lo hi) (nothing_wanted f) (ap (λ ws. joined ws g) (none_past f) ∙ nothing_wanted g)

-- ---- joining again

-- whether a mark may be joined does not depend on the spacing of the next token
may_join_joined : (c : ℕ) (ws : List Bool) (f : Forest)
    → may_join c (next_token (joined ws f)) ≡ may_join c (next_token f)
may_join_joined c ws nil = refl
may_join_joined c ws (leaf (Name raw name) lo hi f) = refl
may_join_joined c ws (leaf (Mark d joint) lo hi f) = refl
may_join_joined c ws (leaf (Literal text) lo hi f) = refl
may_join_joined c ws (group d lo hi f g) = refl

past_joined_token : (want : Bool) (t : Token) (next : Option Token) (ws : List Bool)
    → past_token (joined_token want t next) ws ≡ past_token t ws
past_joined_token want (Name raw name) next ws = refl
past_joined_token want (Mark c joint) next ws = refl
past_joined_token want (Literal text) next ws = refl

past_joined : (f : Forest) (vs ws : List Bool) → past_stream (joined vs f) ws ≡ past_stream f ws
past_joined nil vs ws = refl
past_joined (leaf t lo hi f) vs ws =
    ap (past_stream (joined (past_token t vs) f)) (past_joined_token (first_want vs) t (next_token f) ws)
    ∙ past_joined f (past_token t vs) (past_token t ws)
past_joined (group d lo hi f g) vs ws =
    ap (past_stream (joined (past_stream f vs) g)) (past_joined f vs ws)
    ∙ past_joined g (past_stream f vs) (past_stream f ws)

or_twice : (joint want may : Bool) → ((joint || (want && may)) || (want && may)) ≡ (joint || (want && may))
or_twice true want may = refl
or_twice false true true = refl
or_twice false true false = refl
or_twice false false may = refl

token_twice : (want : Bool) (t : Token) (ws : List Bool) (f : Forest)
    → joined_token want (joined_token want t (next_token f)) (next_token (joined ws f))
    ≡ joined_token want t (next_token f)
token_twice want (Name raw name) ws f = refl
token_twice want (Mark c joint) ws f =
    ap (λ may. Mark c ((joint || (want && may_join c (next_token f))) || (want && may))) (may_join_joined c ws f)
    ∙ ap (Mark c) (or_twice joint want (may_join c (next_token f)))
token_twice want (Literal text) ws f = refl

pub joins_once : (ws : List Bool) (f : Forest) → joined ws (joined ws f) ≡ joined ws f
joins_once ws nil = refl
joins_once ws (leaf t lo hi f) =
    ap₂ (λ u g. leaf u lo hi g) (token_twice (first_want ws) t (past_token t ws) f)
    (ap (λ vs. joined vs (joined (past_token t ws) f))
    (past_joined_token (first_want ws) t (next_token f) ws) ∙ joins_once (past_token t ws) f)
joins_once ws (group d lo hi f g) =
    ap₂ (group d lo hi) (joins_once ws f)
    (ap (λ vs. joined vs (joined (past_stream f ws) g)) (past_joined f ws ws) ∙ joins_once (past_stream f ws) g)

-- ---- well spaced streams

quote_joined : (ws : List Bool) (f : Forest) → follows_quote (next_token (joined ws f)) ≡ follows_quote (next_token f)
quote_joined ws nil = refl
quote_joined ws (leaf (Name raw name) lo hi f) = refl
quote_joined ws (leaf (Mark d joint) lo hi f) = refl
quote_joined ws (leaf (Literal text) lo hi f) = refl
quote_joined ws (group d lo hi f g) = refl

joint_joined : (c : ℕ) (ws : List Bool) (f : Forest)
    → follows_joint c (next_token (joined ws f)) ≡ follows_joint c (next_token f)
joint_joined c ws nil = refl
joint_joined c ws (leaf (Name raw name) lo hi f) = refl
joint_joined c ws (leaf (Mark d joint) lo hi f) = refl
joint_joined c ws (leaf (Literal text) lo hi f) = refl
joint_joined c ws (group d lo hi f g) = refl

close_as : (q operator comment quotes : Bool) → (not q && not (operator || comment)) ≡ true
    → (if q then quotes else not comment) ≡ true
close_as true operator comment quotes may = absurd (false≢true may)
close_as false true comment quotes may = absurd (false≢true may)
close_as false false comment quotes may = may

-- a mark that may be joined may be Joint
close_fits : (c : ℕ) (ws : List Bool) (f : Forest) → may_join c (next_token f) ≡ true
    → fits (Mark c true) (next_token (joined ws f)) ≡ true
close_fits c ws nil may = absurd (false≢true may)
close_fits c ws (leaf (Name raw name) lo hi f) may = absurd (false≢true may)
close_fits c ws (leaf (Mark d joint) lo hi f) may =
    close_as (c == single_quote) (begins_any operator_fronts (c ∷ d ∷ [])) (begins_any comment_fronts (c ∷ d ∷ []))
    _ may
close_fits c ws (leaf (Literal text) lo hi f) may = absurd (false≢true may)
close_fits c ws (group d lo hi f g) may = absurd (false≢true may)

alone_fits : (c : ℕ) (want may : Bool) (ws : List Bool) (f : Forest) → not (c == single_quote) ≡ true
    → may_join c (next_token f) ≡ may
    → fits (Mark c (want && may)) (next_token (joined ws f)) ≡ true
alone_fits c false may ws f fit is = fit
alone_fits c true false ws f fit is = fit
alone_fits c true true ws f fit is = close_fits c ws f is

joined_fits : (want : Bool) (t : Token) (ws : List Bool) (f : Forest) → fits t (next_token f) ≡ true
    → fits (joined_token want t (next_token f)) (next_token (joined ws f)) ≡ true
joined_fits want (Name raw name) ws f fit = refl
joined_fits want (Mark c true) ws f fit =
    ap₂ (λ quotes joins. if c == single_quote then quotes else joins) (quote_joined ws f) (joint_joined c ws f) ∙ fit
joined_fits want (Mark c false) ws f fit = alone_fits c want (may_join c (next_token f)) ws f fit refl
joined_fits want (Literal text) ws f fit = refl

spaced : (ws : List Bool) (f : Forest) → well_spaced f ≡ true → well_spaced (joined ws f) ≡ true
spaced ws nil h = refl
spaced ws (leaf t lo hi f) h =
    let both = and_parts _ _ h in
    and_from _ _ (joined_fits (first_want ws) t (past_token t ws) f both.0) (spaced (past_token t ws) f both.1)
spaced ws (group d lo hi f g) h =
    let both = and_parts _ _ h in
    let more = and_parts _ _ both.1 in
    and_from _ _ both.0 (and_from _ _ (spaced ws f more.0) (spaced (past_stream f ws) g more.1))

pub stays_well_spaced : (ws : List Bool) (f : Forest) → IsWellSpaced f → IsWellSpaced (joined ws f)
stays_well_spaced ws f h = spaced ws f h

no_quote : (c : ℕ) (f : Forest) → may_join c (next_token f) ≡ true → not (c == single_quote) ≡ true
no_quote c nil may = absurd (false≢true may)
no_quote c (leaf (Name raw name) lo hi f) may = absurd (false≢true may)
no_quote c (leaf (Mark d joint) lo hi f) may = (and_parts _ _ may).0
no_quote c (leaf (Literal text) lo hi f) may = absurd (false≢true may)
no_quote c (group d lo hi f g) may = absurd (false≢true may)

alone_fitted : (c : ℕ) (want may : Bool) (next : Option Token) (f : Forest) → may_join c (next_token f) ≡ may
    → fits (Mark c (want && may)) next ≡ true → not (c == single_quote) ≡ true
alone_fitted c false may next f is fit = fit
alone_fitted c true false next f is fit = fit
alone_fitted c true true next f is fit = no_quote c f is

fitted : (want : Bool) (t : Token) (ws : List Bool) (f : Forest)
    → fits (joined_token want t (next_token f)) (next_token (joined ws f)) ≡ true → fits t (next_token f) ≡ true
fitted want (Name raw name) ws f fit = refl
fitted want (Mark c true) ws f fit =
    sym (ap₂ (λ quotes joins. if c == single_quote then quotes else joins) (quote_joined ws f) (joint_joined c ws f))
    ∙ fit
fitted want (Mark c false) ws f fit = alone_fitted c want (may_join c (next_token f)) _ f refl fit
fitted want (Literal text) ws f fit = refl

pub was_well_spaced : (ws : List Bool) (f : Forest) → IsWellSpaced (joined ws f) → IsWellSpaced f
was_well_spaced ws nil h = refl
was_well_spaced ws (leaf t lo hi f) h =
    let both = and_parts _ _ h in
    and_from _ _ (fitted (first_want ws) t (past_token t ws) f both.0) (was_well_spaced (past_token t ws) f both.1)
was_well_spaced ws (group d lo hi f g) h =
    let both = and_parts _ _ h in
    let more = and_parts _ _ both.1 in
    and_from _ _ both.0 (and_from _ _ (was_well_spaced ws f more.0) (was_well_spaced (past_stream f ws) g more.1))
