-- Functions, from their attributes on.
use Rattle.std.specs.Prelude.{[], ◌∷◌}
use Rattle.grammars.specs.Grammar.{Mark, Sign, Then, perhaps}
use Rattle.declarations.specs.rules.Names.{G, seq, one, key, Front, Rest, Returns}
use Rattle.declarations.specs.rules.Types.{type}
use Rattle.declarations.specs.rules.Parts.{attributes, visibility, generics}
use Rattle.declarations.specs.rules.Bodies.{name, function_rest}
use Rattle.declarations.specs.rules.Fronts.{is_safe}
use Rattle.item_tables.specs.declared.class.SignClass.TheVariants as signs
use Rattle.item_tables.specs.declared.class.Keyword.TheVariants as keywords
use Rattle.item_tables.specs.declared.class.Word.TheVariants as words

-- `extern`, and the literal that names its ABI, if there is one
abbrev pub abi : G
abi = Then (key keywords.Extern) (perhaps (one signs.Literal))

-- the qualifiers before `fn`, in this order
abbrev pub qualifiers : G
qualifiers = seq (
    perhaps (one (signs.Word words.Default))
    ∷ perhaps (key keywords.Const)
    ∷ perhaps (key keywords.Async)
    ∷ perhaps (one (signs.Word words.Gen))
    ∷ perhaps (Sign is_safe)
    ∷ perhaps abi
    ∷ [])

-- `->` and a type
abbrev pub with_arrow : G
with_arrow = seq (Mark Rest ∷ one signs.Arrow ∷ Mark Returns ∷ type ∷ [])

-- a return type, or nothing
abbrev pub return_type_rule : G
return_type_rule = perhaps with_arrow

-- a function: attributes, a visibility, qualifiers, `fn`, a name, generic parameters, parameters and the rest
abbrev pub function_item : G
function_item = seq (
    attributes ∷ visibility ∷ Mark Front ∷ qualifiers ∷ key keywords.Fn ∷ name ∷ generics ∷ function_rest ∷ [])
