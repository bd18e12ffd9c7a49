-- Errors of a stream that no choice of spacings repairs.
use Rattle.std.specs.Prelude.{Bool, true, ◌≡◌, ◌==◌, Option, Some, None, if◌then◌else◌}
use Rattle.proc_macro2.specs.Character.{single_quote}
use Rattle.proc_macro2.specs.Forest.{Forest, nil, leaf, group}
use Rattle.proc_macro2.specs.Shown.{is_shown}
use Rattle.proc_macro2.specs.Leaf.{mark_token}
use Rattle.proc_macro2.specs.Token.{Token, Name, Mark, Literal}
use Rattle.proc_macro2.specs.WellSpaced.{follows_quote, next_token}
use Rattle.proc_macro2.specs.declared.TokenTree.{TokenTree}
use Rattle.proc_macro2.specs.declared.TokenTree.TheVariants.{Group, Ident, Punct, Literal as Text}
use Rattle.quoting.specs.declared.errors.QuoteError.{QuoteError}
use Rattle.quoting.specs.declared.errors.QuoteError.TheVariants.{NoneGroup, LoneQuote, Memory}

-- whether the token may come before the next token of its list with some spacing. Only `'` needs a certain next token
abbrev pub may_stand : Token → Option Token → Bool
may_stand (Name raw name) next = true
may_stand (Mark c joint) next = if c == single_quote then follows_quote next else true
may_stand (Literal text) next = true

-- the first error of the stream in reading order, where a group comes before its contents; or else the given error
abbrev pub fault_or : Forest → Option QuoteError → Option QuoteError
fault_or nil after = after
fault_or (leaf token lo hi rest) after =
    if may_stand token (next_token rest) then fault_or rest after else Some LoneQuote
fault_or (group d lo hi inside rest) after =
    if is_shown d then fault_or inside (fault_or rest after) else Some NoneGroup

-- `first-fault`: the first error of the stream in reading order that no choice of spacings repairs
abbrev pub first_fault : Forest → Option QuoteError
first_fault stream = fault_or stream None

-- the error is the `first-fault` of the stream, unless it is `Memory`
abbrev pub IsFaultOf : Forest → QuoteError → Type 0
IsFaultOf stream NoneGroup = first_fault stream ≡ Some NoneGroup
IsFaultOf stream LoneQuote = first_fault stream ≡ Some LoneQuote
IsFaultOf stream (Memory error) = Unit {0}

-- the error of one tree before the given trees, without its contents
abbrev pub tree_fault : TokenTree → Forest → Option QuoteError
tree_fault (Group g) rest = if is_shown g.delimiter then None else Some NoneGroup
tree_fault (Ident i) rest = None
tree_fault (Punct p) rest = if may_stand (mark_token p) (next_token rest) then None else Some LoneQuote
tree_fault (Text l) rest = None
