-- Implementations, after `impl`. Up to two signs after `<` decide whether it begins generic parameters or a type.
use Rattle.std.specs.Prelude.{Bool, true, false, [], ◌∷◌}
use Rattle.grammars.specs.Grammar.{Mark, Sign, To, Then, Either, further, perhaps}
use Rattle.item_tables.specs.Classes.{is, opens}
use Rattle.declarations.specs.rules.Names.{Inside, Target, Range, Bounds, Rest, G, seq, alt, one, key, word}
use Rattle.declarations.specs.rules.Names.{comma}
use Rattle.declarations.specs.rules.Types.{all_operand, bounds, named_operand, operand_but, plain_continuation, range}
use Rattle.declarations.specs.rules.Parts.{attributes, constant_rest, default_type, parameter, parameter_rest}
use Rattle.declarations.specs.rules.Parts.{with_bounds}
use Rattle.declarations.specs.rules.Bodies.{where_and_body}
use Rattle.item_tables.specs.declared.class.SignClass.TheVariants as signs
use Rattle.item_tables.specs.declared.class.Keyword.TheVariants as keywords
use Rattle.item_tables.specs.declared.types.TypeState.TheVariants as types

-- the rest of an `impl` after `!`. If no type follows, the `!` is the type
abbrev pub negative : G
negative = Then (perhaps (range types.Wanted Target)) where_and_body

-- the rest of an `impl` from its trait or its type on, which is not `!`
abbrev pub target_but : Bool → G
target_but angles = Then (Either (named_operand Target) (operand_but (is signs.Exclamation) angles Target))
    where_and_body

-- the rest of an `impl` after its `const`
abbrev pub const_target : G
const_target = Either (Then (one signs.Exclamation) negative) (target_but true)

-- the rest of an `impl` after its generic parameters, or after `impl` if it has none
abbrev pub target : Bool → G
target angles = alt (
    Then (key keywords.Const) const_target
    ∷ Then (one signs.Exclamation) negative
    ∷ target_but angles
    ∷ [])

-- the rest of an `impl` after one of its generic parameters
abbrev pub more_parameters : G
more_parameters = seq (further parameter comma ∷ Mark Rest ∷ one signs.Greater ∷ target true ∷ [])

-- the rest of an `impl` after the arguments of a type that begins with `<`
abbrev pub angle_target : G
angle_target = Then (To (is signs.Greater) (Range types.Whole Target)) where_and_body

-- the rest of an `impl` after `<` and a word, which is a generic parameter or begins a type
abbrev pub impl_word : G
impl_word = alt (
    seq (one signs.Colon ∷ Mark Bounds ∷ bounds ∷ perhaps default_type ∷ more_parameters ∷ [])
    ∷ Then default_type more_parameters
    ∷ more_parameters
    ∷ Then (Either (To (is signs.As) (Range types.Wanted Inside)) (plain_continuation Inside)) angle_target
    ∷ [])

-- the rest of an `impl` after `<`, which begins generic parameters or a type
abbrev pub impl_angle : G
impl_angle = alt (
    Then (one signs.Greater) (target true)
    ∷ seq (one signs.Hash ∷ one signs.Brackets ∷ attributes ∷ parameter_rest ∷ more_parameters ∷ [])
    ∷ seq (one signs.Lifetime ∷ with_bounds ∷ more_parameters ∷ [])
    ∷ seq (key keywords.Const ∷ constant_rest ∷ more_parameters ∷ [])
    ∷ Then word impl_word
    ∷ Then (all_operand Inside) angle_target
    ∷ [])

-- the rest of an `impl` after the keyword
abbrev pub impl_front : G
impl_front = Either (Then (Sign opens) impl_angle) (target false)
