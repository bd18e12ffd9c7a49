-- The list of all classes of signs, and tests of classes.
use Rattle.std.specs.Prelude.{ℕ, ◌==◌, Bool, true, false, ◌&&◌, ◌||◌, List, [], ◌∷◌}
use Rattle.item_tables.specs.declared.class.SignClass.{SignClass}
use Rattle.item_tables.specs.declared.class.SignClass.TheVariants as signs
use Rattle.item_tables.specs.declared.class.Keyword.{Keyword}
use Rattle.item_tables.specs.declared.class.Keyword.TheVariants as keywords
use Rattle.item_tables.specs.declared.class.Word.TheVariants as words

-- the number of a class, which is its position in the list of all classes
abbrev pub code : SignClass → ℕ
code (signs.Word words.Auto) = 0
code (signs.Word words.Default) = 1
code (signs.Word words.Safe) = 2
code (signs.Word words.Union) = 3
code (signs.Word words.Plain) = 4
code (signs.Keyword keywords.Async) = 5
code (signs.Keyword keywords.Const) = 6
code (signs.Keyword keywords.Dyn) = 7
code (signs.Keyword keywords.Enum) = 8
code (signs.Keyword keywords.Extern) = 9
code (signs.Keyword keywords.Fn) = 10
code (signs.Keyword keywords.For) = 11
code (signs.Keyword keywords.Impl) = 12
code (signs.Keyword keywords.Macro) = 13
code (signs.Keyword keywords.Mod) = 14
code (signs.Keyword keywords.Mut) = 15
code (signs.Keyword keywords.Pub) = 16
code (signs.Keyword keywords.Static) = 17
code (signs.Keyword keywords.Struct) = 18
code (signs.Keyword keywords.Trait) = 19
code (signs.Keyword keywords.Type) = 20
code (signs.Keyword keywords.Unsafe) = 21
code (signs.Keyword keywords.Use) = 22
code (signs.Keyword keywords.Where) = 23
code (signs.Keyword keywords.Other) = 24
code signs.SelfValue = 25
code signs.SelfType = 26
code signs.Super = 27
code signs.Crate = 28
code signs.Underscore = 29
code signs.As = 30
code signs.Truth = 31
code signs.Await = 32
code signs.Jump = 33
code signs.Literal = 34
code signs.Lifetime = 35
code signs.PathSeparator = 36
code signs.Arrow = 37
code signs.HashBang = 38
code signs.LessEquals = 39
code signs.Bars = 40
code signs.Restriction = 41
code signs.Parentheses = 42
code signs.Brackets = 43
code signs.Braces = 44
code signs.Visibility = 45
code signs.Invisible = 46
code signs.Less = 47
code signs.LessJoint = 48
code signs.Greater = 49
code signs.Comma = 50
code signs.Colon = 51
code signs.Semicolon = 52
code signs.Equals = 53
code signs.Plus = 54
code signs.Minus = 55
code signs.Star = 56
code signs.And = 57
code signs.Question = 58
code signs.Exclamation = 59
code signs.Hash = 60
code signs.Tilde = 61
code signs.Bar = 62
code signs.Dot = 63
code signs.Infix = 64
code signs.Mark = 65
code signs.Block = 66
code (signs.Word words.Gen) = 67

-- all classes
abbrev pub classes : List SignClass
classes =
    (signs.Word words.Auto) ∷ (signs.Word words.Default) ∷ (signs.Word words.Safe) ∷ (signs.Word words.Union) ∷
    (signs.Word words.Plain) ∷ (signs.Keyword keywords.Async) ∷ (signs.Keyword keywords.Const) ∷
    (signs.Keyword keywords.Dyn) ∷ (signs.Keyword keywords.Enum) ∷ (signs.Keyword keywords.Extern) ∷
    (signs.Keyword keywords.Fn) ∷ (signs.Keyword keywords.For) ∷ (signs.Keyword keywords.Impl) ∷
    (signs.Keyword keywords.Macro) ∷ (signs.Keyword keywords.Mod) ∷ (signs.Keyword keywords.Mut) ∷
    (signs.Keyword keywords.Pub) ∷ (signs.Keyword keywords.Static) ∷ (signs.Keyword keywords.Struct) ∷
    (signs.Keyword keywords.Trait) ∷ (signs.Keyword keywords.Type) ∷ (signs.Keyword keywords.Unsafe) ∷
    (signs.Keyword keywords.Use) ∷ (signs.Keyword keywords.Where) ∷ (signs.Keyword keywords.Other) ∷
    signs.SelfValue ∷ signs.SelfType ∷ signs.Super ∷ signs.Crate ∷ signs.Underscore ∷ signs.As ∷ signs.Truth ∷
    signs.Await ∷ signs.Jump ∷ signs.Literal ∷ signs.Lifetime ∷ signs.PathSeparator ∷ signs.Arrow ∷ signs.HashBang ∷
    signs.LessEquals ∷ signs.Bars ∷ signs.Restriction ∷ signs.Parentheses ∷ signs.Brackets ∷ signs.Braces ∷
    signs.Visibility ∷ signs.Invisible ∷ signs.Less ∷ signs.LessJoint ∷ signs.Greater ∷ signs.Comma ∷ signs.Colon ∷
    signs.Semicolon ∷ signs.Equals ∷ signs.Plus ∷ signs.Minus ∷ signs.Star ∷ signs.And ∷ signs.Question ∷
    signs.Exclamation ∷ signs.Hash ∷ signs.Tilde ∷ signs.Bar ∷ signs.Dot ∷ signs.Infix ∷ signs.Mark ∷
    signs.Block ∷ (signs.Word words.Gen) ∷ []

-- whether all elements of a list pass the test
abbrev pub all_of : {T : Type 0} → (T → Bool) → List T → Bool
all_of p [] = true
all_of p (x ∷ xs) = p x && all_of p xs

-- whether an element of a list passes the test
abbrev pub any_of : {T : Type 0} → (T → Bool) → List T → Bool
any_of p [] = false
any_of p (x ∷ xs) = p x || any_of p xs

-- whether all classes pass the test
abbrev pub every : (SignClass → Bool) → Bool
every p = all_of p classes

-- whether a class passes the test
abbrev pub any : (SignClass → Bool) → Bool
any p = any_of p classes

-- ---- tests of classes

-- whether the class is this one
abbrev pub is : SignClass → SignClass → Bool
is x c = code x == code c

-- whether the class is one of these
abbrev pub one_of : List SignClass → SignClass → Bool
one_of [] c = false
one_of (x ∷ xs) c = is x c || one_of xs c

-- whether the class is this keyword
abbrev pub keyword : Keyword → SignClass → Bool
keyword k = is (signs.Keyword k)

-- whether the class is a keyword
abbrev pub is_keyword : SignClass → Bool
is_keyword (signs.Keyword _) = true
is_keyword _ = false

-- whether the class is a word, which can be a name
abbrev pub is_word : SignClass → Bool
is_word (signs.Word _) = true
is_word _ = false

-- whether the sign opens an angle bracket
abbrev pub opens : SignClass → Bool
opens = one_of (signs.Less ∷ signs.LessJoint ∷ [])

-- whether the sign is a group in parentheses
abbrev pub is_round : SignClass → Bool
is_round signs.Parentheses = true
is_round signs.Restriction = true
is_round _ = false

-- whether the sign is a block: braces, or a group without delimiters that holds only braces
abbrev pub is_block : SignClass → Bool
is_block signs.Braces = true
is_block signs.Block = true
is_block _ = false
