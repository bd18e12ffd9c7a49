-- Types and bounds: what may follow in each state of the walk over them.
use Rattle.std.specs.Prelude.{Bool, true, false, not, ◌&&◌, ◌||◌, [], ◌∷◌, if◌then◌else◌}
use Rattle.grammars.specs.Grammar.{To, Then, Either, perhaps}
use Rattle.item_tables.specs.Classes.{one_of, is, is_round, is_word, keyword, opens}
use Rattle.declarations.specs.rules.Names.{Context, Inside, Outside, Target, Name, Range, G, alt}
use Rattle.item_tables.specs.declared.class.SignClass.{SignClass}
use Rattle.item_tables.specs.declared.class.SignClass.TheVariants as signs
use Rattle.item_tables.specs.declared.class.Keyword.TheVariants as keywords
use Rattle.item_tables.specs.declared.types.TypeState.{TypeState}
use Rattle.item_tables.specs.declared.types.TypeState.TheVariants as types

-- whether the sign is an operand in every type, except words and lifetimes
abbrev pub plain_operand : SignClass → Bool
plain_operand = one_of (signs.SelfValue ∷ signs.SelfType ∷ signs.Super ∷ signs.Crate ∷ signs.Underscore
    ∷ signs.Restriction ∷ signs.Parentheses ∷ signs.Brackets ∷ signs.Invisible ∷ signs.Exclamation ∷ [])

-- whether the sign is an operand only within angle brackets
abbrev pub constant_operand : SignClass → Bool
constant_operand = one_of (signs.Truth ∷ signs.Literal ∷ signs.Braces ∷ signs.Block ∷ [])

-- whether the sign can come before an operand
abbrev pub type_front : SignClass → Bool
type_front c =
    one_of (signs.PathSeparator ∷ signs.And ∷ signs.Question ∷ []) c
    || (keyword keywords.Async c || (keyword keywords.Dyn c || (keyword keywords.Fn c || (keyword keywords.Impl c
    || (keyword keywords.Mut c || (keyword keywords.Unsafe c || keyword keywords.Use c))))))

-- arguments in angle brackets, followed by this rule
abbrev pub angle : Name → G
angle n = Then (To opens (Range types.Argument Inside)) (To (is signs.Greater) n)

-- an operand, except words, lifetimes and signs that pass the test. The second argument allows `<`
abbrev pub operand_but : (SignClass → Bool) → Bool → Context → G
operand_but without angles context = alt (
    To (λ c. plain_operand c && not (without c)) (Range types.Whole context)
    ∷ To type_front (Range types.Wanted context)
    ∷ To (is signs.Star) (Range types.Pointer context)
    ∷ To (is signs.Tilde) (Range types.Tilde context)
    ∷ To (keyword keywords.Extern) (Range types.Abi context)
    ∷ To (keyword keywords.For) (Range types.For context)
    ∷ (if angles then angle (Range types.Whole context) ∷ [] else []))

-- an operand that any type can have, except words and lifetimes
abbrev pub other_operand : Context → G
other_operand = operand_but (λ c. false) true

-- an operand that begins with a word or a lifetime
abbrev pub named_operand : Context → G
named_operand context =
    Either (To is_word (Range types.Whole context)) (To (is signs.Lifetime) (Range types.Lifetime context))

-- an operand that can be only within angle brackets
abbrev pub constant : G
constant = Either (To constant_operand (Range types.Whole Inside)) (To (is signs.Minus) (Range types.Minus Inside))

-- an operand, except words and lifetimes
abbrev pub all_operand : Context → G
all_operand Inside = Either (other_operand Inside) constant
all_operand context = other_operand context

-- an operand
abbrev pub operand : Context → G
operand context = Either (named_operand context) (all_operand context)

-- this grammar, or within angle brackets a `,` and another argument
abbrev pub comma_inside : Context → G → G
comma_inside Inside g = Either (To (is signs.Comma) (Range types.Argument Inside)) g
comma_inside context g = g

-- what may follow an operand, except what may also follow a generic parameter
abbrev pub plain_continuation : Context → G
plain_continuation context = alt (
    To is_round (Range types.Whole context)
    ∷ To (one_of (signs.PathSeparator ∷ signs.Arrow ∷ [])) (Range types.Wanted context)
    ∷ To (is signs.Plus) (Range types.Bound context)
    ∷ To (is signs.Exclamation) (Range types.MacroGroup context)
    ∷ angle (Range types.Whole context)
    ∷ [])

-- what may follow an operand
abbrev pub continuation : Context → G
continuation Inside = alt (
    To (is signs.As) (Range types.Wanted Inside)
    ∷ To (is signs.Equals) (Range types.Wanted Inside)
    ∷ To (is signs.Comma) (Range types.Argument Inside)
    ∷ To (is signs.Colon) (Range types.Bound Inside)
    ∷ plain_continuation Inside
    ∷ [])
continuation Outside = plain_continuation Outside
continuation Target = Either (To (keyword keywords.For) (Range types.Wanted Outside)) (plain_continuation Target)

-- what may follow `extern`, except a literal
abbrev pub abi : Context → G
abi Inside = alt (
    named_operand Inside
    ∷ other_operand Inside
    ∷ To (one_of (signs.Truth ∷ signs.Braces ∷ signs.Block ∷ [])) (Range types.Whole Inside)
    ∷ To (is signs.Minus) (Range types.Minus Inside)
    ∷ [])
abi context = operand context

-- a type or bounds, from a state of the walk on
abbrev pub range : TypeState → Context → G
range types.Wanted context = operand context
range types.Bound context = perhaps (comma_inside context (operand context))
range types.Lifetime context =
    perhaps (Either (To (is signs.Plus) (Range types.Bound context)) (comma_inside context (operand context)))
range types.Argument Inside = perhaps (operand Inside)
range types.Argument context = operand context
range types.Whole context = perhaps (continuation context)
range types.MacroGroup context =
    To (one_of (signs.Restriction ∷ signs.Parentheses ∷ signs.Brackets ∷ signs.Braces ∷ [])) (Range types.Whole context)
range types.Pointer context =
    To (λ c. keyword keywords.Const c || keyword keywords.Mut c) (Range types.Wanted context)
range types.Tilde context = To (keyword keywords.Const) (Range types.Wanted context)
range types.Abi context = Either (To (is signs.Literal) (Range types.Wanted context)) (abi context)
range types.Minus context = To (is signs.Literal) (Range types.Whole context)
range types.For context = To opens (Range types.Binder context)
range types.Binder context = Either
    (To (one_of (signs.Lifetime ∷ signs.Comma ∷ signs.Colon ∷ signs.Plus ∷ [])) (Range types.Binder context))
    (To (is signs.Greater) (Range types.Wanted context))

-- a type
abbrev pub type : G
type = range types.Wanted Outside

-- bounds, with `+` between two
abbrev pub bounds : G
bounds = range types.Bound Outside
