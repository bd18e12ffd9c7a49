-- Which calls trees have.
use Rattle.std.specs.Prelude.{ℕ, Bool, true, false, not, ◌&&◌, ◌||◌, List, [], ◌++◌, codes, Option, Some, None}
use Rattle.std.specs.Prelude.{is_some, if◌then◌else◌}
use Rattle.std.specs.Option.{option_to_list}
use Rattle.std.specs.Str.{bytes_eq, encode_utf8_all}
use Rattle.lexical.specs.Token.{Token, Name, Mark, Literal}
use Rattle.pm_span.specs.Extent.{Extent}
use Rattle.pm_token.specs.declared.delimiters.Delimiter.{Delimiter}
use Rattle.pm_token.specs.declared.delimiters.Delimiter.TheVariants.{Parenthesis}
use Rattle.pm_stream.specs.Forest.{Forest, nil, leaf, group}
use Rattle.token_buffer.specs.Arguments.{after_turbofish, is_token_mark}
use Rattle.token_buffer.specs.Reads.{group_first}

-- whether the token is an identifier of this name, raw or not. A name is its bytes
abbrev pub is_named : List ℕ → Token → Bool
is_named name (Name raw text) = bytes_eq (encode_utf8_all text) name
is_named name (Mark c joint) = false
is_named name (Literal text) = false

-- whether it is the keyword `fn`
abbrev pub is_fn : Token → Bool
is_fn (Name raw text) = not raw && bytes_eq (encode_utf8_all text) (codes "fn")
is_fn (Mark c joint) = false
is_fn (Literal text) = false

abbrev pub is_parenthesis : Delimiter → Bool
is_parenthesis Parenthesis = true
is_parenthesis _ = false

-- whether a group in parentheses comes first
abbrev pub has_arguments : Forest → Bool
has_arguments nil = false
has_arguments (leaf token lo hi rest) = false
has_arguments (group d lo hi inside rest) = is_parenthesis d

-- the same of what is left, if anything is known to be
abbrev pub has_arguments_there : Option Forest → Bool
has_arguments_there None = false
has_arguments_there (Some rest) = has_arguments rest

-- what stands right after a name makes it a call: a group in parentheses, perhaps after a turbofish (`::` and generic
-- arguments); or `!` (33) and a group
abbrev pub is_called : Forest → Bool
is_called nil = false
is_called (leaf token lo hi rest) =
    (is_token_mark 33 token && is_some (group_first rest))
    || has_arguments_there (after_turbofish (leaf token lo hi rest))
is_called (group d lo hi inside rest) = is_parenthesis d

-- where the first tree stands, if it is a call of this name, and doesn't define the name after `fn`
abbrev pub call_first : List ℕ → Bool → Forest → Option Extent
call_first name defined nil = None
call_first name defined (leaf token lo hi rest) =
    if is_named name token && (not defined && is_called rest) then Some (record { lo = lo; hi = hi }) else None
call_first name defined (group d lo hi inside rest) = None

-- where the calls of the name stand, in reading order, and then other spans. `fn` stands right before them if defined
abbrev pub calls_onto : List ℕ → Bool → Forest → List Extent → List Extent
calls_onto name defined nil more = more
calls_onto name defined (leaf token lo hi rest) more =
    option_to_list (call_first name defined (leaf token lo hi rest)) ++ calls_onto name (is_fn token) rest more
calls_onto name defined (group d lo hi inside rest) more =
    calls_onto name false inside (calls_onto name false rest more)

-- where the calls of the name stand
abbrev pub calls : List ℕ → Forest → List Extent
calls name trees = calls_onto name false trees []
