-- What the code's values mean in the definitions of templates.
use Rattle.std.specs.Prelude.{ℕ, zero, suc, Bool, true, false, ◌≡◌, ◌==◌, List, [], ◌∷◌, Option, Some, None, Ok, Err}
use Rattle.std.specs.Prelude.{not, ◌-◌, length}
use Rattle.std.specs.Prelude.{if◌then◌else◌}
use Rattle.std.specs.Borrow.{Bor}
use Rattle.std.specs.Char.{is_ascii_digit}
use Rattle.std.specs.List.{list_all}
use Rattle.std.specs.Str.{chars}
use Rattle.proc_macro2.specs.Escaped.{string_text}
use Rattle.proc_macro2.specs.Building.{split}
use Rattle.proc_macro2.specs.Character.{hash_sign}
use Rattle.proc_macro2.specs.Extent.{Extent}
use Rattle.proc_macro2.specs.Forest.{Forest, nil, leaf, group}
use Rattle.proc_macro2.specs.Leaf.{mark_token, name_token, text_token}
use Rattle.proc_macro2.specs.Leaf as leaves
use Rattle.proc_macro2.specs.Token as tokens
use Rattle.proc_macro2.specs.Token.{token_text}
use Rattle.proc_macro2.specs.Trees.{alone}
use Rattle.proc_macro2.specs.declared.Group.{Group as Grouped}
use Rattle.proc_macro2.specs.declared.TokenTree.{TokenTree}
use Rattle.proc_macro2.specs.declared.TokenTree.TheVariants.{Group, Ident, Punct, Literal}
use Rattle.proc_macro2.specs.declared.Spacing.TheVariants.{Alone}
use Rattle.quoting.specs.Filled.{comes, depth_limit, has_meaning, filled_by}
use Rattle.quoting.specs.Holes.{Named, Outcome, all_in_turn}
use Rattle.quoting.specs.Items.{Filling, One, Each, each_of}
use Rattle.quoting.specs.Interpolation.{Interpolation, Names, Repeats, after_hash, interpolation}
use Rattle.quoting.specs.declared.errors.TemplateError.{TemplateError}
use Rattle.quoting.specs.declared.errors.TemplateError.TheVariants.{NoHole, LoneList, NoList, UnequalLists}
use Rattle.quoting.specs.declared.errors.TemplateError.TheVariants.{NotIdent, NotFinite, TooDeep, Parse, Memory}
use Rattle.quoting.specs.declared.holes.Filling.{Filling as Filler}
use Rattle.quoting.specs.declared.holes.Filling.TheVariants.{One as OneStream, Each as EachStream, Of as OfValue}
use Rattle.quoting.specs.declared.holes.Filling.TheVariants.{Tree as OfTree, Ident as OfIdent, Literal as OfLiteral}
use Rattle.quoting.specs.declared.holes.Filling.TheVariants.{Text as OfText, Item as OfItem}
use Rattle.quoting.specs.Kept.{item_filling}
use Rattle.quoting.specs.Values.{plain_literal, value_of}
use Rattle.quoting.specs.declared.holes.Hole.{Hole}
use Rattle.quoting.specs.declared.holes.HoleName.{HoleName}
use Rattle.quoting.specs.declared.holes.HoleName.TheVariants.{IdentName, Digits}
use Rattle.quoting.specs.declared.interpolation.Repetition.{Repetition}
use Rattle.quoting.specs.declared.interpolation.FoundInterpolation.{FoundInterpolation as Found}
use Rattle.quoting.specs.declared.interpolation.FoundInterpolation.TheVariants.{Names as FoundName}
use Rattle.quoting.specs.declared.interpolation.FoundInterpolation.TheVariants.{Repeats as FoundRepetition}

-- the trees or the list that a filling of the code stands for
abbrev pub filling_by : Filler → Filling
filling_by (OneStream stream) = One stream.now
filling_by (EachStream streams) = Each (each_of One streams.now)
filling_by (OfValue value) = value_of value.now
filling_by (OfTree tree) = One (split tree.now)
filling_by (OfIdent ident) = One (alone (Ident ident.now))
filling_by (OfLiteral literal) = One (split (Literal literal.now))
filling_by (OfText text) = One (plain_literal (string_text (chars text.now)))
filling_by (OfItem value) = item_filling value.now

-- the filling that was found, if any
abbrev pub looked_up : Option Filler → Option Filling
looked_up None = None
looked_up (Some filler) = Some (filling_by filler)

-- the hole's name and its filling
abbrev pub name_and_filling : Hole → Named
name_and_filling hole = record { name = chars hole.name.now; filling = filling_by hole.filling }

-- the names and the fillings of the holes
abbrev pub named_all : List Hole → List Named
named_all [] = []
named_all (hole ∷ holes) = name_and_filling hole ∷ named_all holes

-- the holes in the given turns of repetitions, the outermost first
abbrev pub in_all : List ℕ → List Named → List Named
in_all [] holes = holes
in_all (turn ∷ turns) holes = in_all turns (all_in_turn turn holes)

-- the holes of the code in the given turns of repetitions, the outermost first
abbrev pub in_turns : List Hole → List ℕ → List Named
in_turns holes turns = in_all turns (named_all holes)

-- the text of a name
abbrev pub text_of : HoleName → List ℕ
text_of (IdentName ident) = token_text (name_token ident.now)
text_of (Digits literal) = literal.now.text

-- the span of a name
abbrev pub span_of : HoleName → Extent
span_of (IdentName ident) = ident.now.span
span_of (Digits literal) = literal.now.span

-- the hole that a name after a `#` stands for
abbrev pub named_by : Option HoleName → Option Interpolation
named_by None = None
named_by (Some name) = Some (Names (text_of name) (span_of name))

-- the separator between two turns
abbrev pub separator_of : Option (Bor leaves.Mark) → Forest
separator_of None = nil
separator_of (Some mark) = leaf (tokens.Mark mark.now.mark false) mark.now.span.lo mark.now.span.hi nil

-- a repetition of the code as an `Interpolation`
abbrev pub repeats_of : Repetition → Interpolation
repeats_of repetition =
    Repeats repetition.body.now.stream repetition.body.now.span (separator_of repetition.separator)

-- a hole or repetition of the code as an `Interpolation`
abbrev pub interpolation_in : Found → Interpolation
interpolation_in (FoundName name rest) = Names (text_of name) (span_of name)
interpolation_in (FoundRepetition repetition rest) = repeats_of repetition

-- the `Interpolation` of what was found, if any
abbrev pub begun_as : Option Found → Option Interpolation
begun_as None = None
begun_as (Some found) = Some (interpolation_in found)

-- the trees after a hole or a repetition
abbrev pub rest_of : Found → List TokenTree
rest_of (FoundName name rest) = rest.now
rest_of (FoundRepetition repetition rest) = rest.now

-- the hole or repetition that begins with the tree, before the given trees
abbrev pub interpolation_of : TokenTree → Forest → Option Interpolation
interpolation_of (Group g) rest = None
interpolation_of (Ident i) rest = interpolation (name_token i) rest
interpolation_of (Punct p) rest = interpolation (mark_token p) rest
interpolation_of (Literal l) rest = interpolation (text_token l) rest

-- the tree, which becomes Alone if it is a mark and the `Bool` is true
abbrev pub apart : Bool → TokenTree → TokenTree
apart false tree = tree
apart true (Group g) = Group g
apart true (Ident i) = Ident i
apart true (Punct p) = Punct (record p { spacing = Alone })
apart true (Literal l) = Literal l

-- the tree, which becomes Alone if it is a mark and a hole or a repetition begins right after it
abbrev pub apart_before : Forest → TokenTree → TokenTree
apart_before rest = apart (has_meaning rest)

-- the repetition that begins with a `#` and the group, before the given trees
abbrev pub repeats : Grouped → Forest → Option Interpolation
repeats g rest = after_hash (group g.delimiter g.span.lo g.span.hi g.stream rest)

-- the hole that a tree names
abbrev pub tree_name : TokenTree → Option Interpolation
tree_name (Group g) = None
tree_name (Ident i) = Some (Names (token_text (name_token i)) i.span)
tree_name (Punct p) = None
tree_name (Literal l) = if list_all is_ascii_digit l.text then Some (Names l.text l.span) else None

-- whether the tree is the mark with the given character
abbrev pub tree_is_mark : ℕ → TokenTree → Bool
tree_is_mark c (Group g) = false
tree_is_mark c (Ident i) = false
tree_is_mark c (Punct p) = p.mark == c
tree_is_mark c (Literal l) = false

-- whether the tree is neither a group nor `#`. Filling does not change a list of such trees
abbrev pub is_fixed : TokenTree → Bool
is_fixed (Group g) = false
is_fixed (Ident i) = true
is_fixed (Punct p) = not (p.mark == hash_sign)
is_fixed (Literal l) = true

-- the trees that replace a hole or a repetition in the given turns
abbrev pub gives : List Hole → List ℕ → ℕ → Interpolation → Outcome
gives holes turns = comes (depth_limit - length turns) (in_turns holes turns)

-- the filled contents of a group
abbrev pub inside_at : (ℕ → Interpolation → Outcome) → ℕ → Grouped → Outcome
inside_at given zero g = Err (TooDeep g.span)
inside_at given (suc depth) g = filled_by given depth 0 g.stream

-- the filled contents of a tree. A token has none
abbrev pub inside_tree : (ℕ → Interpolation → Outcome) → ℕ → TokenTree → Outcome
inside_tree given depth (Group g) = inside_at given depth g
inside_tree given depth (Ident i) = Ok nil
inside_tree given depth (Punct p) = Ok nil
inside_tree given depth (Literal l) = Ok nil

-- whether the second tree is the first one filled: a group is filled inside, and a mark may become Alone
abbrev pub Settles : (ℕ → Interpolation → Outcome) → ℕ → Bool → TokenTree → TokenTree → Type 0
Settles given depth alone (Group g) new =
    (inside : Forest) × (inside_at given depth g ≡ Ok inside) × (new ≡ Group (record g { stream = inside }))
Settles given depth alone (Ident i) new = new ≡ Ident i
Settles given depth alone (Punct p) new = new ≡ apart alone (Punct p)
Settles given depth alone (Literal l) new = new ≡ Literal l

-- the statement holds, unless memory ran out. The error is not one of parsing a text
abbrev pub UnlessMemory : TemplateError → Type 0 → Type 0
UnlessMemory (NoHole span) holds = holds
UnlessMemory (LoneList span) holds = holds
UnlessMemory (NoList span) holds = holds
UnlessMemory (UnequalLists span) holds = holds
UnlessMemory (NotIdent span) holds = holds
UnlessMemory (NotFinite span) holds = holds
UnlessMemory (TooDeep span) holds = holds
UnlessMemory (Parse error) holds = ⊥
UnlessMemory (Memory error) holds = Unit {0}
