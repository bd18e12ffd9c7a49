-- The holes and repetitions of a template.
use Rattle.std.specs.Prelude.{ℕ, ◌+◌, Bool, false, ◌==◌, List, Option, Some, None, if◌then◌else◌}
use Rattle.std.specs.Char.{is_ascii_digit}
use Rattle.std.specs.List.{list_all}
use Rattle.proc_macro2.specs.Character.{hash_sign}
use Rattle.proc_macro2.specs.Extent.{Extent}
use Rattle.proc_macro2.specs.Forest.{Forest, nil, leaf, group}
use Rattle.proc_macro2.specs.Size.{count}
use Rattle.proc_macro2.specs.Token.{Token, Name, Mark, Literal, token_text}
use Rattle.proc_macro2.specs.declared.Delimiter.TheVariants.{Parenthesis, Brace, Bracket, None as Bare}

-- a hole or a repetition in a template
pub data Interpolation : Type 0 where
  -- `#` and the name of a hole, with the span of the name
  Names : List ℕ → Extent → Interpolation
  -- `#( .. )*` or `#( .. ),*`: the trees that are repeated, the span of their parentheses, and the separator
  Repeats : Forest → Extent → Forest → Interpolation

-- the number of trees of the hole or repetition after its `#`
abbrev pub tree_count : Option Interpolation → ℕ
tree_count None = 0
tree_count (Some (Names name span)) = 1
tree_count (Some (Repeats body span separator)) = 2 + count separator

-- whether the token is the mark with the given character
abbrev pub is_mark_of : ℕ → Token → Bool
is_mark_of c (Name raw name) = false
is_mark_of c (Mark d joint) = d == c
is_mark_of c (Literal text) = false

-- whether the trees begin with `*`
abbrev pub begins_star : Forest → Bool
begins_star nil = false
begins_star (leaf token lo hi rest) = is_mark_of 42 token
begins_star (group d lo hi inside rest) = false

-- the token as a separator, if it is a mark before `*`. It is Alone, since the `*` is not part of the result
abbrev pub separator_trees : Token → ℕ → ℕ → Forest → Option Forest
separator_trees (Name raw name) lo hi rest = None
separator_trees (Mark c joint) lo hi rest = if begins_star rest then Some (leaf (Mark c false) lo hi nil) else None
separator_trees (Literal text) lo hi rest = None

-- the separator at the start of the trees: nothing before `*`, or the mark before a `*`
abbrev pub separator : Forest → Option Forest
separator nil = None
separator (leaf token lo hi rest) = if is_mark_of 42 token then Some nil else separator_trees token lo hi rest
separator (group d lo hi inside rest) = None

-- the repetition of the trees in parentheses, if a separator or `*` follows them
abbrev pub repetition : Forest → Extent → Option Forest → Option Interpolation
repetition body span None = None
repetition body span (Some between) = Some (Repeats body span between)

-- the hole that the token names: an identifier, raw or not, or a literal of digits alone
abbrev pub name_of : Token → Extent → Option Interpolation
name_of (Name raw name) span = Some (Names (token_text (Name raw name)) span)
name_of (Mark c joint) span = None
name_of (Literal text) span = if list_all is_ascii_digit text then Some (Names text span) else None

-- the hole or repetition that a `#` before the given trees begins
abbrev pub after_hash : Forest → Option Interpolation
after_hash nil = None
after_hash (leaf token lo hi rest) = name_of token (record { lo = lo; hi = hi })
after_hash (group Parenthesis lo hi inside rest) = repetition inside (record { lo = lo; hi = hi }) (separator rest)
after_hash (group Brace lo hi inside rest) = None
after_hash (group Bracket lo hi inside rest) = None
after_hash (group Bare lo hi inside rest) = None

-- the hole or repetition that begins with the token, before the given trees
abbrev pub interpolation : Token → Forest → Option Interpolation
interpolation token rest = if is_mark_of hash_sign token then after_hash rest else None
