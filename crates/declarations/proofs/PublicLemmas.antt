-- Which identifiers are `pub`.
use Rattle.std.proofs.Common.{◌≡◌, refl, Bool, false, true, List, [], ◌∷◌, Option, Some, None}
use Rattle.std.proofs.Common.{if◌then◌else◌}
use Rattle.std.proofs.lemmas.Slice.Eq.{bytes_eq-Decides}
use Rattle.std.specs.Prelude.{codes}
use Rattle.pm_token.specs.Leaf.{Name}
use Rattle.pm_token.specs.Spelling.{name_text}
use Rattle.pm_token.proofs.SpellingLemmas.{plain_as_written}
use Rattle.declarations.specs.Signs.{class_or_name, is_early_keyword, is_late_keyword, is_written, item_keyword}
use Rattle.declarations.specs.Signs.{keyword_of, keyword_or_word, name_class, operand_class, or_else, other_keyword}
use Rattle.declarations.specs.Signs.{path_class, type_keyword, word_of}
use Rattle.item_tables.specs.Classes.{is}
use Rattle.item_tables.specs.declared.class.SignClass.{SignClass}
use Rattle.item_tables.specs.declared.class.SignClass.TheVariants as signs
use Rattle.item_tables.specs.declared.class.Keyword.{Keyword}
use Rattle.item_tables.specs.declared.class.Keyword.TheVariants as keywords
use Rattle.item_tables.specs.declared.class.Word.{Word}
use Rattle.item_tables.specs.declared.class.Word.TheVariants as words
use Rattle.declarations.proofs.SortLemmas.{choice_holds, operand_rows, path_rows}

abbrev pub public : SignClass
public = signs.Keyword keywords.Pub

-- an identifier that is written `pub` has the class of this keyword
pub pub_is : (i : Name) → is_written i (codes "pub") ≡ true → name_class i ≡ public
pub_is i h =
    let same : name_text i ≡ codes "pub" = (bytes_eq-Decides (name_text i) (codes "pub")).0 h in
    let plain = plain_as_written i (codes "pub") refl same in
    rw (plain.0, plain.1) refl

-- ---- no other identifier has it

abbrev IsOther : SignClass → Type 0
IsOther class = is public class ≡ false

abbrev MayBeOther : Option SignClass → Type 0
MayBeOther None = Unit {0}
MayBeOther (Some class) = IsOther class

abbrev MayBeOtherKeyword : Option Keyword → Type 0
MayBeOtherKeyword None = Unit {0}
MayBeOtherKeyword (Some keyword) = IsOther (signs.Keyword keyword)

path_other : (i : Name) → MayBeOther (path_class i)
path_other i = choice_holds MayBeOther (path_rows i) None (refl, (refl, (refl, (refl, (refl, tt))))) tt

operand_other : (i : Name) → MayBeOther (operand_class i)
operand_other i =
    choice_holds MayBeOther (operand_rows i) None (refl, (refl, (refl, (refl, (refl, (refl, (refl, tt))))))) tt

abbrev item_rows : Name → List (Bool × Option Keyword)
item_rows i =
    (is_written i (codes "struct"), Some keywords.Struct) ∷ (is_written i (codes "enum"), Some keywords.Enum) ∷
    (is_written i (codes "static"), Some keywords.Static) ∷ (is_written i (codes "trait"), Some keywords.Trait) ∷
    (is_written i (codes "type"), Some keywords.Type) ∷ (is_written i (codes "mod"), Some keywords.Mod) ∷
    (is_written i (codes "macro"), Some keywords.Macro) ∷ []

-- the last two keywords that only begin items
abbrev last_keyword : Bool → Name → Option Keyword
last_keyword is_pub i =
    if is_pub then Some keywords.Pub
    else (if is_written i (codes "where") then Some keywords.Where else None)

last_other : (b : Bool) (i : Name) → b ≡ false → MayBeOtherKeyword (last_keyword b i)
last_other true i h = absurd cc
last_other false i h =
    choice_holds MayBeOtherKeyword ((is_written i (codes "where"), Some keywords.Where) ∷ []) None (refl, tt) tt

item_other : (i : Name) → is_written i (codes "pub") ≡ false → MayBeOtherKeyword (item_keyword i)
item_other i h =
    choice_holds MayBeOtherKeyword (item_rows i) (last_keyword (is_written i (codes "pub")) i)
    (refl, (refl, (refl, (refl, (refl, (refl, (refl, tt))))))) (last_other (is_written i (codes "pub")) i h)

abbrev type_rows : Name → List (Bool × Option Keyword)
type_rows i =
    (is_written i (codes "mut"), Some keywords.Mut) ∷ (is_written i (codes "const"), Some keywords.Const) ∷
    (is_written i (codes "extern"), Some keywords.Extern) ∷ (is_written i (codes "for"), Some keywords.For) ∷
    (is_written i (codes "dyn"), Some keywords.Dyn) ∷ (is_written i (codes "impl"), Some keywords.Impl) ∷
    (is_written i (codes "unsafe"), Some keywords.Unsafe) ∷ (is_written i (codes "async"), Some keywords.Async) ∷
    (is_written i (codes "fn"), Some keywords.Fn) ∷ (is_written i (codes "use"), Some keywords.Use) ∷ []

type_other : (i : Name) → MayBeOtherKeyword (type_keyword i)
type_other i =
    choice_holds MayBeOtherKeyword (type_rows i) None
    (refl, (refl, (refl, (refl, (refl, (refl, (refl, (refl, (refl, (refl, tt)))))))))) tt

rest_other : (i : Name) → MayBeOtherKeyword (other_keyword i)
rest_other i =
    choice_holds MayBeOtherKeyword
    ((is_early_keyword i, Some keywords.Other) ∷ (is_late_keyword i, Some keywords.Other) ∷ []) None
    (refl, (refl, tt)) tt

or_other : {A : Type 0} (P : Option A → Type 0) (o other : Option A) → P o → P other → P (or_else o other)
or_other P None other h j = j
or_other P (Some x) other h j = h

word_other : (w : Word) → IsOther (signs.Word w)
word_other words.Auto = refl
word_other _ = refl

named_other : (o : Option Keyword) (i : Name) → MayBeOtherKeyword o → IsOther (keyword_or_word o i)
named_other None i h = word_other (word_of i)
named_other (Some keyword) i h = h

class_other : (o : Option SignClass) (i : Name) → is_written i (codes "pub") ≡ false → MayBeOther o
    → IsOther (class_or_name o i)
class_other None i h other =
    named_other (keyword_of i) i
    (or_other MayBeOtherKeyword (item_keyword i) (or_else (type_keyword i) (other_keyword i)) (item_other i h)
    (or_other MayBeOtherKeyword (type_keyword i) (other_keyword i) (type_other i) (rest_other i)))
class_other (Some class) i h other = other

pub pub_is_not : (i : Name) → is_written i (codes "pub") ≡ false → is public (name_class i) ≡ false
pub_is_not i h =
    class_other (or_else (path_class i) (operand_class i)) i h
    (or_other MayBeOther (path_class i) (operand_class i) (path_other i) (operand_other i))
