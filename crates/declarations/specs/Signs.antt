-- The signs of trees. A sign is one tree, or two trees that are read as one.
use Rattle.std.specs.Prelude.{◌≡◌, ℕ, ◌==◌, ◌<◌, ◌&&◌, ◌||◌, Bool, true, false, List, [], ◌∷◌, ◌++◌, codes, Option}
use Rattle.std.specs.Prelude.{Some, None}
use Rattle.std.specs.Prelude.{length, nat_eq, if◌then◌else◌}
use Rattle.std.specs.Cmp.Lexicographic.{pointwise}
use Rattle.lexical.specs.Token as tokens
use Rattle.lexical.specs.Token.{Token}
use Rattle.pm_token.specs.Leaf.{Name, is_joint}
use Rattle.pm_token.specs.Spelling.{name_text}
use Rattle.pm_token.specs.declared.delimiters.Delimiter.{Delimiter}
use Rattle.pm_token.specs.declared.delimiters.Delimiter.TheVariants as delimiters
use Rattle.pm_stream.specs.Forest.{Forest, nil, leaf, group}
use Rattle.pm_stream.specs.Size.{is_nil}
use Rattle.pm_stream.specs.declared.stream.TokenTree.{TokenTree}
use Rattle.pm_stream.specs.declared.stream.TokenTree.TheVariants.{Group, Ident, Punct, Literal}
use Rattle.declarations.specs.Bare.{innermost, innermost_trees}
use Rattle.item_tables.specs.declared.class.SignClass.{SignClass}
use Rattle.item_tables.specs.declared.class.SignClass.TheVariants as classes
use Rattle.item_tables.specs.declared.class.Keyword.{Keyword}
use Rattle.item_tables.specs.declared.class.Keyword.TheVariants as keywords
use Rattle.item_tables.specs.declared.class.Word.{Word}
use Rattle.item_tables.specs.declared.class.Word.TheVariants as words

-- whether the identifier has this text
abbrev pub is_written : Name → List ℕ → Bool
is_written ident text = pointwise nat_eq (name_text ident) text

-- the class of a keyword that can be in a path
abbrev pub path_class : Name → Option SignClass
path_class ident =
    if is_written ident (codes "self") then Some classes.SelfValue
    else (if is_written ident (codes "Self") then Some classes.SelfType
    else (if is_written ident (codes "super") then Some classes.Super
    else (if is_written ident (codes "crate") then Some classes.Crate
    else (if is_written ident (codes "_") then Some classes.Underscore else None))))

abbrev pub is_truth : Name → Bool
is_truth ident = is_written ident (codes "true") || is_written ident (codes "false")

-- the class of a keyword that is an operand, or that can come before or after an operand
abbrev pub operand_class : Name → Option SignClass
operand_class ident =
    if is_truth ident then Some classes.Truth
    else (if is_written ident (codes "as") then Some classes.As
    else (if is_written ident (codes "await") then Some classes.Await
    else (if is_written ident (codes "continue") then Some classes.Jump
    else (if is_written ident (codes "return") then Some classes.Jump
    else (if is_written ident (codes "break") then Some classes.Jump
    else (if is_written ident (codes "yield") then Some classes.Jump else None))))))

-- the keyword, if it only begins items or their parts
abbrev pub item_keyword : Name → Option Keyword
item_keyword ident =
    if is_written ident (codes "struct") then Some keywords.Struct
    else (if is_written ident (codes "enum") then Some keywords.Enum
    else (if is_written ident (codes "static") then Some keywords.Static
    else (if is_written ident (codes "trait") then Some keywords.Trait
    else (if is_written ident (codes "type") then Some keywords.Type
    else (if is_written ident (codes "mod") then Some keywords.Mod
    else (if is_written ident (codes "macro") then Some keywords.Macro
    else (if is_written ident (codes "pub") then Some keywords.Pub
    else (if is_written ident (codes "where") then Some keywords.Where else None))))))))

-- the keyword, if it can come before the operand of a type
abbrev pub type_keyword : Name → Option Keyword
type_keyword ident =
    if is_written ident (codes "mut") then Some keywords.Mut
    else (if is_written ident (codes "const") then Some keywords.Const
    else (if is_written ident (codes "extern") then Some keywords.Extern
    else (if is_written ident (codes "for") then Some keywords.For
    else (if is_written ident (codes "dyn") then Some keywords.Dyn
    else (if is_written ident (codes "impl") then Some keywords.Impl
    else (if is_written ident (codes "unsafe") then Some keywords.Unsafe
    else (if is_written ident (codes "async") then Some keywords.Async
    else (if is_written ident (codes "fn") then Some keywords.Fn
    else (if is_written ident (codes "use") then Some keywords.Use else None)))))))))

-- whether the identifier is one of the keywords from `abstract` to `let` that no rule names
abbrev pub is_early_keyword : Name → Bool
is_early_keyword ident =
    is_written ident (codes "abstract")
    || is_written ident (codes "become")
    || is_written ident (codes "box")
    || is_written ident (codes "do")
    || is_written ident (codes "else")
    || is_written ident (codes "final")
    || is_written ident (codes "if")
    || is_written ident (codes "in")
    || is_written ident (codes "let")

abbrev pub is_late_keyword : Name → Bool
is_late_keyword ident =
    is_written ident (codes "loop")
    || is_written ident (codes "match")
    || is_written ident (codes "move")
    || is_written ident (codes "override")
    || is_written ident (codes "priv")
    || is_written ident (codes "ref")
    || is_written ident (codes "typeof")
    || is_written ident (codes "unsized")
    || is_written ident (codes "virtual")
    || is_written ident (codes "while")

abbrev pub other_keyword : Name → Option Keyword
other_keyword ident =
    if is_early_keyword ident then Some keywords.Other
    else (if is_late_keyword ident then Some keywords.Other else None)

-- the kind of word that an identifier is
abbrev pub word_of : Name → Word
word_of ident =
    if is_written ident (codes "auto") then words.Auto
    else (if is_written ident (codes "default") then words.Default
    else (if is_written ident (codes "gen") then words.Gen
    else (if is_written ident (codes "safe") then words.Safe
    else (if is_written ident (codes "union") then words.Union else words.Plain))))

abbrev pub or_else : {A : Type 0} → Option A → Option A → Option A
or_else None other = other
or_else (Some found) other = Some found

abbrev pub keyword_of : Name → Option Keyword
keyword_of ident = or_else (item_keyword ident) (or_else (type_keyword ident) (other_keyword ident))

abbrev pub keyword_or_word : Option Keyword → Name → SignClass
keyword_or_word None ident = classes.Word (word_of ident)
keyword_or_word (Some keyword) ident = classes.Keyword keyword

abbrev pub class_or_name : Option SignClass → Name → SignClass
class_or_name None ident = keyword_or_word (keyword_of ident) ident
class_or_name (Some class) ident = class

abbrev pub name_class : Name → SignClass
name_class ident = class_or_name (or_else (path_class ident) (operand_class ident)) ident

-- the class of a mark that occurs only in expressions
abbrev pub operator_class : ℕ → SignClass
operator_class c =
    if c == 124 then classes.Bar
    else (if c == 46 then classes.Dot
    else (if (c == 47) || ((c == 37) || ((c == 94) || (c == 64))) then classes.Infix
    else classes.Mark))

-- the class of a mark, by its character and whether it is `Joint`
abbrev pub mark_class : ℕ → Bool → SignClass
mark_class c joint =
    if (c == 60) && joint then classes.LessJoint
    else (if c == 60 then classes.Less
    else (if c == 62 then classes.Greater
    else (if c == 44 then classes.Comma
    else (if c == 58 then classes.Colon
    else (if c == 59 then classes.Semicolon
    else (if c == 61 then classes.Equals
    else (if c == 43 then classes.Plus
    else (if c == 45 then classes.Minus
    else (if c == 42 then classes.Star
    else (if c == 38 then classes.And
    else (if c == 63 then classes.Question
    else (if c == 33 then classes.Exclamation
    else (if c == 35 then classes.Hash
    else (if c == 126 then classes.Tilde
    else operator_class c))))))))))))))

-- whether an identifier in parentheses restricts `pub`. The second argument says that it is the only tree there
abbrev pub restricts : Name → Bool → Bool
restricts ident alone =
    is_written ident (codes "in")
    || (alone && ((is_written ident (codes "crate") || is_written ident (codes "self"))
    || is_written ident (codes "super")))

-- whether a token in parentheses restricts `pub`. Its span does not matter
abbrev pub restricts_by : Token → Bool → Bool
restricts_by (tokens.Name raw name) alone =
    restricts (record { name = name; raw = raw; span = record { lo = 0; hi = 0 } }) alone
restricts_by (tokens.Mark c joint) alone = false
restricts_by (tokens.Literal text) alone = false

-- whether trees in parentheses restrict `pub`: `crate`, `self` or `super` alone, or `in` and more trees
abbrev pub is_restriction : Forest → Bool
is_restriction nil = false
is_restriction (leaf token lo hi rest) = restricts_by token (is_nil rest)
is_restriction (group d lo hi inside rest) = false

abbrev pub parentheses_class : Bool → SignClass
parentheses_class true = classes.Restriction
parentheses_class false = classes.Parentheses

-- whether the identifier is `pub`, and what follows belongs to it
abbrev pub is_pub : Name → Bool → Bool
is_pub ident belongs = is_written ident (codes "pub") && belongs

abbrev pub is_pub_by : Token → Bool → Bool
is_pub_by (tokens.Name raw name) belongs =
    is_pub (record { name = name; raw = raw; span = record { lo = 0; hi = 0 } }) belongs
is_pub_by (tokens.Mark c joint) belongs = false
is_pub_by (tokens.Literal text) belongs = false

-- whether the group restricts `pub`. It must be the last tree
abbrev pub restricts_in : Delimiter → Forest → Bool → Bool
restricts_in delimiters.Parenthesis inside last = last && is_restriction inside
restricts_in _ inside last = false

-- whether the trees after `pub` are a restriction or none
abbrev pub may_restrict : Forest → Bool
may_restrict nil = true
may_restrict (leaf token lo hi rest) = false
may_restrict (group d lo hi inside rest) = restricts_in d inside (is_nil rest)

-- whether the trees are a visibility: no trees, or `pub` with a restriction or without
abbrev pub is_visibility : Forest → Bool
is_visibility nil = true
is_visibility (leaf token lo hi rest) = is_pub_by token (may_restrict rest)
is_visibility (group d lo hi inside rest) = false

-- the class of a group without delimiters that holds only a group with these delimiters
abbrev pub held_group : Delimiter → SignClass
held_group delimiters.Brace = classes.Block
held_group _ = classes.Invisible

-- the class of trees in a group without delimiters that are no visibility: a literal, `'` (39) and an identifier,
-- braces alone, or other trees
abbrev pub held_class : List TokenTree → SignClass
held_class (Literal l ∷ []) = classes.Literal
held_class (Group g ∷ []) = held_group g.delimiter
held_class (Punct p ∷ Ident i ∷ []) = if p.mark == 39 then classes.Lifetime else classes.Invisible
held_class _ = classes.Invisible

-- the class of a group without delimiters. What is in the innermost of such groups decides
abbrev pub unseen_class : Forest → SignClass
unseen_class inside =
    if is_visibility (innermost inside) then classes.Visibility else held_class (innermost_trees inside)

abbrev pub group_class : Delimiter → Forest → SignClass
group_class delimiters.Parenthesis inside = parentheses_class (is_restriction inside)
group_class delimiters.Bracket inside = classes.Brackets
group_class delimiters.Brace inside = classes.Braces
group_class delimiters.None inside = unseen_class inside

-- the class of a tree that is a sign of its own
abbrev pub tree_class : TokenTree → SignClass
tree_class (Group g) = group_class g.delimiter g.stream
tree_class (Ident i) = name_class i
tree_class (Punct p) = mark_class p.mark (is_joint p.spacing)
tree_class (Literal l) = classes.Literal

-- the class of two marks that are read as one, whatever the spacing of the first is: `#` (35) and `!` (33)
abbrev pub loose_class : ℕ → ℕ → Option SignClass
loose_class first second = if (first == 35) && (second == 33) then Some classes.HashBang else None

-- the class of two marks that are one sign if the first is `Joint`: `::` (58), `->` (45, 62), `<=` (60, 61), `||` (124)
abbrev pub marks_class : ℕ → ℕ → Option SignClass
marks_class first second =
    if (first == 58) && (second == 58) then Some classes.PathSeparator
    else (if (first == 45) && (second == 62) then Some classes.Arrow
    else (if (first == 60) && (second == 61) then Some classes.LessEquals
    else (if (first == 124) && (second == 124) then Some classes.Bars else None)))

abbrev pub joint_class : ℕ → ℕ → Option SignClass
joint_class first second = or_else (marks_class first second) (loose_class first second)

-- the class of two trees that are read as one sign, or nothing. They are two marks, or `'` (39) and an identifier
abbrev pub pair_class : TokenTree → TokenTree → Option SignClass
pair_class (Punct p) (Punct q) =
    if is_joint p.spacing then joint_class p.mark q.mark else loose_class p.mark q.mark
pair_class (Punct p) (Ident i) = if p.mark == 39 then Some classes.Lifetime else None
pair_class _ _ = None

-- a sign: its class and its trees
pub record Sign : Type 0 where
  pub class : SignClass
  pub trees : List TokenTree

-- the signs of these trees, perhaps after one tree that is not yet read
abbrev pub signs_after : Option TokenTree → List TokenTree → List Sign
signs_after None [] = []
signs_after None (tree ∷ rest) = signs_after (Some tree) rest
signs_after (Some first) [] = record { class = tree_class first; trees = first ∷ [] } ∷ []
signs_after (Some first) (tree ∷ rest) = elim (pair_class first tree) [
  | None ↦ record { class = tree_class first; trees = first ∷ [] } ∷ signs_after (Some tree) rest
  | Some class ↦ record { class = class; trees = first ∷ tree ∷ [] } ∷ signs_after None rest
]

-- the signs of the trees, from the left. Two trees that can be one sign are read as one
abbrev pub signs : List TokenTree → List Sign
signs trees = signs_after None trees

-- the classes of the signs
abbrev pub classes_of : List Sign → List SignClass
classes_of [] = []
classes_of (sign ∷ rest) = sign.class ∷ classes_of rest

-- the trees of the signs
abbrev pub trees_of : List Sign → List TokenTree
trees_of [] = []
trees_of (sign ∷ rest) = sign.trees ++ trees_of rest

-- the trees begin with a sign of this class, and the rest comes after it
pub record BeginsWith (trees : List TokenTree) (class : SignClass) (rest : List TokenTree) : Type 0 where
  pub front : List TokenTree
  pub whole : trees ≡ front ++ rest
  pub fewer : length rest < length trees
  pub read : signs trees ≡ record { class = class; trees = front } ∷ signs rest
