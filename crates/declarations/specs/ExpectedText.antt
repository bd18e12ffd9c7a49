-- How the signs that can come next are named in messages.
use Rattle.std.specs.Prelude.{◌≡◌, ℕ, zero, suc, ◌==◌, ◌+◌, ◌^◌, true, not, List, [], ◌∷◌, ◌++◌, bit_and, codes}
use Rattle.std.specs.Prelude.{filter, if◌then◌else◌}
use Rattle.std.specs.Borrow.{Bor}
use Rattle.std.specs.Int.{bit_at}
use Rattle.std.specs.Int.RustNames.{bit_xor}
use Rattle.declarations.specs.Expected.{holds}
use Rattle.item_tables.specs.declared.class.SignClass.{SignClass}
use Rattle.item_tables.specs.declared.class.SignClass.TheVariants as signs
use Rattle.item_tables.specs.declared.class.Keyword.TheVariants as keywords
use Rattle.item_tables.specs.declared.class.Word.TheVariants as words
use Rattle.declarations.specs.declared.expected.Expected.{Expected}
use Rattle.item_tables.specs.Classes.{classes, code, one_of}

-- some signs as bits, and what these signs are named together
abbrev pub Names : Type 0
Names = List (ℕ × List ℕ)

-- the bit of this class
abbrev pub one : SignClass → ℕ
one class = 2 ^ code class

-- the bits of these classes
abbrev pub mask_of : List SignClass → ℕ
mask_of [] = 0
mask_of (class ∷ more) = one class + mask_of more

-- all classes but these
abbrev pub others : List SignClass → List SignClass
others few = filter (λ class. not (one_of few class)) classes

-- words, which can be names
abbrev pub any_word : List SignClass
any_word =
    (signs.Word words.Auto) ∷ (signs.Word words.Default) ∷ (signs.Word words.Safe) ∷ (signs.Word words.Union) ∷
    (signs.Word words.Plain) ∷ (signs.Word words.Gen) ∷ []

-- words that can be in paths
abbrev pub path_words : List SignClass
path_words = signs.SelfValue ∷ signs.Super ∷ signs.Crate ∷ any_word

-- keywords that have no class of their own
abbrev pub any_keyword : List SignClass
any_keyword =
    (signs.Keyword keywords.Async) ∷ (signs.Keyword keywords.Const) ∷ (signs.Keyword keywords.Dyn) ∷
    (signs.Keyword keywords.Enum) ∷ (signs.Keyword keywords.Extern) ∷ (signs.Keyword keywords.Fn) ∷
    (signs.Keyword keywords.For) ∷ (signs.Keyword keywords.Impl) ∷ (signs.Keyword keywords.Macro) ∷
    (signs.Keyword keywords.Mod) ∷ (signs.Keyword keywords.Mut) ∷ (signs.Keyword keywords.Pub) ∷
    (signs.Keyword keywords.Static) ∷ (signs.Keyword keywords.Struct) ∷ (signs.Keyword keywords.Trait) ∷
    (signs.Keyword keywords.Type) ∷ (signs.Keyword keywords.Unsafe) ∷ (signs.Keyword keywords.Use) ∷
    (signs.Keyword keywords.Where) ∷ (signs.Keyword keywords.Other) ∷ []

-- signs that can begin a type
abbrev pub types : List SignClass
types =
    (signs.Keyword keywords.Async) ∷ (signs.Keyword keywords.Dyn) ∷ (signs.Keyword keywords.Extern) ∷
    (signs.Keyword keywords.Fn) ∷ (signs.Keyword keywords.For) ∷ (signs.Keyword keywords.Impl) ∷
    (signs.Keyword keywords.Mut) ∷ (signs.Keyword keywords.Unsafe) ∷ (signs.Keyword keywords.Use) ∷ signs.SelfType ∷
    signs.Underscore ∷ signs.Lifetime ∷ signs.PathSeparator ∷ signs.Restriction ∷ signs.Parentheses ∷
    signs.Brackets ∷ signs.Invisible ∷ signs.Less ∷ signs.LessJoint ∷ signs.Star ∷ signs.And ∷ signs.Question ∷
    signs.Exclamation ∷ signs.Tilde ∷ path_words

-- signs that can begin a pattern
abbrev pub patterns : List SignClass
patterns =
    (signs.Keyword keywords.Mut) ∷ (signs.Keyword keywords.Other) ∷ signs.SelfType ∷ signs.Super ∷ signs.Crate ∷
    signs.Underscore ∷ signs.Truth ∷ signs.Literal ∷ signs.PathSeparator ∷ signs.Restriction ∷ signs.Parentheses ∷
    signs.Brackets ∷ signs.Invisible ∷ signs.Less ∷ signs.LessJoint ∷ signs.Minus ∷ signs.And ∷ signs.Dot ∷ any_word

-- signs that can begin a function after `gen`
abbrev pub functions : List SignClass
functions =
    (signs.Word words.Safe) ∷ (signs.Keyword keywords.Extern) ∷ (signs.Keyword keywords.Fn) ∷
    (signs.Keyword keywords.Unsafe) ∷ []

-- signs that can begin a function after `async`
abbrev pub after_async : List SignClass
after_async = (signs.Word words.Gen) ∷ functions

-- signs that can begin a function after `const`
abbrev pub after_const : List SignClass
after_const = (signs.Keyword keywords.Async) ∷ after_async

-- signs that can begin a function after `default`
abbrev pub after_default : List SignClass
after_default = (signs.Keyword keywords.Const) ∷ after_const

-- signs that can begin a function after its visibility
abbrev pub after_visibility : List SignClass
after_visibility = (signs.Word words.Default) ∷ after_default

-- signs that can begin an item after its visibility
abbrev pub declarations : List SignClass
declarations =
    (signs.Word words.Auto) ∷ (signs.Word words.Union) ∷ (signs.Keyword keywords.Enum) ∷
    (signs.Keyword keywords.Impl) ∷ (signs.Keyword keywords.Macro) ∷ (signs.Keyword keywords.Mod) ∷
    (signs.Keyword keywords.Static) ∷ (signs.Keyword keywords.Struct) ∷ (signs.Keyword keywords.Trait) ∷
    (signs.Keyword keywords.Type) ∷ (signs.Keyword keywords.Use) ∷ after_visibility

-- signs that no expression begins with, and that are no operators between operands but `as` and `<=`
abbrev pub no_operands : List SignClass
no_operands =
    signs.As ∷ signs.HashBang ∷ signs.LessEquals ∷ signs.Visibility ∷ signs.Comma ∷ signs.Semicolon ∷ signs.Tilde ∷
    signs.Mark ∷ []

-- signs that can begin no expression
abbrev pub no_expressions : List SignClass
no_expressions = signs.Colon ∷ signs.Plus ∷ signs.Question ∷ signs.Infix ∷ no_operands

-- signs that cannot follow an operand in an expression
abbrev pub no_operators : List SignClass
no_operators =
    signs.SelfType ∷ signs.Underscore ∷ signs.Truth ∷ signs.Literal ∷ signs.Lifetime ∷ signs.HashBang ∷
    signs.Visibility ∷ signs.Comma ∷ signs.Semicolon ∷ signs.Hash ∷ signs.Tilde ∷ signs.Mark ∷ path_words

-- signs that can begin no type after `as`
abbrev pub no_casts : List SignClass
no_casts =
    signs.Literal ∷ signs.HashBang ∷ signs.LessEquals ∷ signs.Bars ∷ signs.Visibility ∷ signs.Greater ∷ signs.Comma ∷
    signs.Colon ∷ signs.Semicolon ∷ signs.Equals ∷ signs.Plus ∷ signs.Minus ∷ signs.Question ∷ signs.Hash ∷
    signs.Tilde ∷ signs.Bar ∷ signs.Dot ∷ signs.Infix ∷ signs.Mark ∷ []

-- signs that can follow a type that may end
abbrev pub more_type : List SignClass
more_type =
    signs.PathSeparator ∷ signs.Arrow ∷ signs.Restriction ∷ signs.Parentheses ∷ signs.Less ∷ signs.LessJoint ∷
    signs.Plus ∷ signs.Exclamation ∷ []

-- the names of signs. What is named together comes before its parts
unfoldable pub all_names : Names
all_names =
    (mask_of classes, codes "`;` or more of the expression") ∷
    (mask_of (others (signs.Semicolon ∷ [])), codes "an expression") ∷
    (one signs.Comma, codes "`,`") ∷
    (one signs.Semicolon, codes "`;`") ∷
    (mask_of (others no_operands), codes "an expression") ∷
    (mask_of (others no_expressions), codes "an expression") ∷
    (mask_of (others (signs.Arrow ∷ signs.Greater ∷ signs.Equals ∷ no_expressions)), codes "an expression") ∷
    (mask_of (others no_casts), codes "a type") ∷
    (mask_of (others no_operators), codes "an operator") ∷
    (one signs.Greater, codes "`>`") ∷
    (one signs.Colon, codes "`:`") ∷ (
      mask_of (signs.SelfValue ∷ signs.Braces ∷ signs.Equals ∷ signs.Exclamation ∷ signs.Infix ∷ patterns),
      codes "more of the pattern",
    ) ∷
    (one signs.Equals, codes "`=`") ∷ (
      mask_of (signs.Truth ∷ signs.Literal ∷ signs.Braces ∷ signs.Minus ∷ signs.Block ∷ types),
      codes "a generic argument",
    ) ∷ (
      mask_of (signs.SelfType ∷ signs.As ∷ signs.Truth ∷ signs.Await ∷ signs.Jump ∷ signs.Literal ∷
          signs.PathSeparator ∷ signs.Minus ∷ (path_words ++ any_keyword)),
      codes "an entry",
    ) ∷
    (mask_of (signs.Dot ∷ types), codes "a type or `...`") ∷
    (mask_of types, codes "a type") ∷
    (mask_of (signs.SelfType ∷ signs.As ∷ signs.Await ∷ signs.Jump ∷ (path_words ++ any_keyword)), codes "a name") ∷ (
      mask_of ((signs.Word words.Plain) ∷ (signs.Keyword keywords.Pub) ∷ signs.SelfValue ∷ signs.Super ∷
          signs.Crate ∷ signs.PathSeparator ∷ signs.Visibility ∷ signs.Invisible ∷ signs.Hash ∷ declarations),
      codes "an item",
    ) ∷
    (mask_of (signs.SelfValue ∷ signs.Hash ∷ patterns), codes "a parameter") ∷
    (mask_of patterns, codes "a pattern") ∷
    (mask_of declarations, codes "an item") ∷
    (mask_of ((signs.Keyword keywords.Pub) ∷ signs.Visibility ∷ signs.Hash ∷ after_visibility), codes "a function") ∷ (
      mask_of ((signs.Word words.Union) ∷ (signs.Keyword keywords.Enum) ∷ (signs.Keyword keywords.Pub) ∷
          (signs.Keyword keywords.Struct) ∷ signs.Visibility ∷ signs.Hash ∷ []),
      codes "a struct, an enum or a union",
    ) ∷ (
      mask_of ((signs.Word words.Default) ∷ (signs.Keyword keywords.Impl) ∷ (signs.Keyword keywords.Pub) ∷
          (signs.Keyword keywords.Unsafe) ∷ signs.Visibility ∷ signs.Hash ∷ []),
      codes "an impl",
    ) ∷
    (mask_of ((signs.Keyword keywords.Const) ∷ signs.Lifetime ∷ signs.Hash ∷ any_word), codes "a generic parameter") ∷
    (mask_of (signs.SelfType ∷ path_words), codes "a name") ∷
    (mask_of path_words, codes "a name") ∷
    (mask_of any_word, codes "a name") ∷
    (mask_of after_visibility, codes "a function") ∷
    (mask_of after_default, codes "a function") ∷
    (mask_of after_const, codes "a function") ∷
    (mask_of after_async, codes "a function") ∷
    (mask_of functions, codes "a function") ∷
    (mask_of ((signs.Keyword keywords.Pub) ∷ signs.Visibility ∷ []), codes "a visibility") ∷
    (mask_of (signs.Braces ∷ signs.Block ∷ []), codes "`{`") ∷
    (mask_of (signs.Restriction ∷ signs.Parentheses ∷ signs.Brackets ∷ signs.Braces ∷ []), codes "a group") ∷
    (one signs.Braces, codes "`{`") ∷
    (one (signs.Keyword keywords.Where), codes "`where`") ∷
    (one (signs.Keyword keywords.For), codes "`for`") ∷
    (mask_of more_type, codes "more of the type") ∷
    (mask_of (signs.Restriction ∷ signs.Parentheses ∷ []), codes "`(`") ∷
    (mask_of (signs.Less ∷ signs.LessJoint ∷ []), codes "`<`") ∷
    (one signs.Arrow, codes "`->`") ∷
    (one signs.PathSeparator, codes "`::`") ∷
    (one signs.Exclamation, codes "`!`") ∷
    (one (signs.Keyword keywords.Struct), codes "`struct`") ∷
    (one (signs.Keyword keywords.Enum), codes "`enum`") ∷
    (one (signs.Keyword keywords.Fn), codes "`fn`") ∷
    (one (signs.Keyword keywords.Impl), codes "`impl`") ∷
    (one (signs.Keyword keywords.Trait), codes "`trait`") ∷
    (one (signs.Keyword keywords.Mod), codes "`mod`") ∷
    (one (signs.Keyword keywords.Type), codes "`type`") ∷
    (one (signs.Keyword keywords.Static), codes "`static`") ∷
    (one (signs.Keyword keywords.Use), codes "`use`") ∷
    (one (signs.Word words.Union), codes "`union`") ∷
    (one (signs.Keyword keywords.Macro), codes "`macro`") ∷
    (one signs.SelfValue, codes "`self`") ∷
    (one signs.SelfType, codes "`Self`") ∷
    (one signs.Super, codes "`super`") ∷
    (one signs.Crate, codes "`crate`") ∷
    (one (signs.Keyword keywords.Unsafe), codes "`unsafe`") ∷
    (one (signs.Keyword keywords.Extern), codes "`extern`") ∷
    (one (signs.Keyword keywords.Const), codes "`const`") ∷
    (one (signs.Keyword keywords.Async), codes "`async`") ∷
    (one (signs.Word words.Safe), codes "`safe`") ∷
    (one (signs.Word words.Gen), codes "`gen`") ∷
    (one (signs.Word words.Default), codes "`default`") ∷
    (one (signs.Word words.Auto), codes "`auto`") ∷
    (one (signs.Keyword keywords.Mut), codes "`mut`") ∷
    (one (signs.Keyword keywords.Dyn), codes "`dyn`") ∷
    (one (signs.Keyword keywords.Pub), codes "`pub`") ∷
    (one signs.As, codes "`as`") ∷
    (one signs.Underscore, codes "`_`") ∷
    (one signs.Lifetime, codes "a lifetime") ∷
    (one signs.Literal, codes "a literal") ∷
    (one signs.Hash, codes "an attribute") ∷
    (one signs.HashBang, codes "an inner attribute") ∷
    (one signs.Brackets, codes "`[`") ∷
    (one signs.Parentheses, codes "`(`") ∷
    (one signs.Restriction, codes "`(crate)`") ∷
    (one signs.Visibility, codes "a visibility") ∷
    (one signs.Less, codes "`<`") ∷
    (one signs.LessJoint, codes "`<`") ∷
    (one signs.LessEquals, codes "`<=`") ∷
    (one signs.Plus, codes "`+`") ∷
    (one signs.Minus, codes "`-`") ∷
    (one signs.Star, codes "`*`") ∷
    (one signs.And, codes "`&`") ∷
    (one signs.Question, codes "`?`") ∷
    (one signs.Tilde, codes "`~`") ∷
    (one signs.Bar, codes "`|`") ∷
    (one signs.Bars, codes "`||`") ∷
    (one signs.Dot, codes "`.`") ∷
    (one signs.Infix, codes "`/`") ∷
    (one signs.Mark, codes "`$`") ∷
    (one signs.Block, codes "a block") ∷
    (one (signs.Word words.Plain), codes "a name") ∷
    (one (signs.Keyword keywords.Other), codes "a keyword") ∷
    (one signs.Truth, codes "`true`") ∷
    (one signs.Await, codes "`await`") ∷
    (one signs.Jump, codes "`return`") ∷
    (one signs.Invisible, codes "a group without delimiters") ∷
    (2 ^ 127, codes "the end") ∷ []

-- each row whose bits are all left, in turn, has only classes of the set
abbrev pub NamesOnly : Expected → ℕ → Names → Type 0
NamesOnly set left [] = Unit
NamesOnly set left (row ∷ rows) =
    ((bit_and left row.0 == row.0) ≡ true
    → (class : SignClass) → bit_at row.0 (code class) ≡ 1 → holds set class ≡ true)
    × NamesOnly set (if bit_and left row.0 == row.0 then bit_xor left row.0 else left) rows

-- the names of the bits: each name whose bits are all left, in turn, and then those of what is left
abbrev pub names_of : ℕ → Names → List (List ℕ)
names_of left [] = []
names_of left (row ∷ rows) =
    if bit_and left row.0 == row.0 then row.1 ∷ names_of (bit_xor left row.0) rows else names_of left rows

-- what is written before a name, if this many more can be written and these are left
abbrev pub separator : ℕ → List (List ℕ) → List ℕ
separator zero more = codes " or "
separator (suc n) [] = codes " or "
separator (suc n) (name ∷ more) = codes ", "

-- the names after the first one, at most this many
abbrev pub more_listed : ℕ → List (List ℕ) → List ℕ
more_listed zero [] = []
more_listed zero (name ∷ more) = codes ", among others"
more_listed (suc n) [] = []
more_listed (suc n) (name ∷ more) = separator n more ++ name ++ more_listed n more

-- a list of names, with four of them at most
abbrev pub listed : List (List ℕ) → List ℕ
listed [] = []
listed (name ∷ more) = name ++ more_listed 3 more

-- the names of the signs in the set, with four of them at most
abbrev pub expected_text : Expected → List ℕ
expected_text set = listed (names_of set.bits all_names)

-- the rows of a table in the code
abbrev pub rows_of : List (ℕ × Bor (List ℕ)) → Names
rows_of [] = []
rows_of (row ∷ rows) = (row.0, row.1.now) ∷ rows_of rows
