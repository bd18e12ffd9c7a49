-- Impls, from their attributes on.
use Rattle.std.specs.Prelude.{[], ◌∷◌}
use Rattle.grammars.specs.Grammar.{Mark, Then, To, perhaps}
use Rattle.item_tables.specs.Classes.{keyword}
use Rattle.declarations.specs.rules.Names.{Front, G, Impl, key, one, seq}
use Rattle.declarations.specs.rules.Parts.{attributes, visibility}
use Rattle.item_tables.specs.declared.class.SignClass.TheVariants as signs
use Rattle.item_tables.specs.declared.class.Keyword.TheVariants as keywords
use Rattle.item_tables.specs.declared.class.Word.TheVariants as words

-- the qualifiers before `impl`, in this order
abbrev pub impl_qualifiers : G
impl_qualifiers = Then (perhaps (one (signs.Word words.Default))) (perhaps (key keywords.Unsafe))

-- `impl` and the rest
abbrev pub impl_keyword : G
impl_keyword = To (keyword keywords.Impl) Impl

-- an `impl`: attributes, a visibility, qualifiers, `impl` and the rest
abbrev pub impl_item : G
impl_item = seq (attributes ∷ visibility ∷ Mark Front ∷ impl_qualifiers ∷ impl_keyword ∷ [])
