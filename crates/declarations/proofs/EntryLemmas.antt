-- The entries of attributes' lists.
use Rattle.std.proofs.Common.{◌≡◌, refl, sym, ◌∙◌, ap, subst, ℕ, ◌-◌, ◌<◌, Bool, true, false, not, ◌&&◌, ◌||◌, List, []}
use Rattle.std.proofs.Common.{◌∷◌, ◌++◌, Option, None, length, arith}
use Rattle.std.proofs.lemmas.Bool.{both_ways, or_left}
use Rattle.std.specs.Prelude.{MatchResult, Result, Ok, Err}
use Rattle.std.specs.Borrow.{Bor}
use Rattle.grammars.specs.Deterministic.{IsStart}
use Rattle.grammars.specs.Find.{find}
use Rattle.grammars.specs.First.{heads, may_begin}
use Rattle.grammars.specs.Grammar.{Either, Mark, Then}
use Rattle.grammars.specs.Machine.{into, or_else, step}
use Rattle.grammars.proofs.FindLemmas.{scan_step}
use Rattle.pm_span.specs.Extent.{Extent}
use Rattle.pm_token.specs.declared.delimiters.Delimiter.{Delimiter}
use Rattle.pm_token.specs.declared.delimiters.Delimiter.TheVariants as delimiters
use Rattle.pm_stream.specs.Forest.{Forest}
use Rattle.pm_stream.specs.declared.stream.Group.{Group as Grouped}
use Rattle.pm_stream.specs.declared.stream.TokenTree.{TokenTree}
use Rattle.pm_stream.specs.declared.stream.TokenTree.TheVariants.{Group}
use Rattle.declarations.specs.Bare.{has_no_delimiters}
use Rattle.declarations.specs.Entry.{HasArgs, HasLiteral, HasParts, IsListAt, IsOnlyRest, IsPlainEntryAt}
use Rattle.declarations.specs.Entry.{ReadsEntry}
use Rattle.declarations.specs.Fault.{extent_at, first_extent}
use Rattle.declarations.specs.Range.{in_expression}
use Rattle.declarations.specs.Reader.{Finds, ReadsRule, Sticks, classes_in}
use Rattle.declarations.specs.Reading.{FaultAt, Reads}
use Rattle.declarations.specs.Tables.{StopsAt}
use Rattle.declarations.specs.Signs as signs_in
use Rattle.declarations.specs.Signs.{BeginsWith, group_class, is_restriction, parentheses_class, trees_of}
use Rattle.item_tables.specs.declared.class.SignClass.{SignClass}
use Rattle.item_tables.specs.declared.class.SignClass.TheVariants as signs
use Rattle.item_tables.specs.declared.class.Keyword.TheVariants as keywords
use Rattle.item_tables.specs.declared.class.Word.TheVariants as words
use Rattle.declarations.specs.declared.entry.Entry.{Entry}
use Rattle.declarations.specs.declared.entry.EntryKind.{EntryKind}
use Rattle.declarations.specs.declared.entry.EntryKind.TheVariants as kinds
use Rattle.item_tables.specs.Classes.{is}
use Rattle.declarations.specs.rules.Entries as rule
use Rattle.declarations.specs.rules.Expressions.{expression}
use Rattle.declarations.specs.rules.Names.{G, Value, one}
use Rattle.declarations.specs.rules.Pieces.{ByRule}
use Rattle.declarations.specs.rules.Rules.{follows, rules}
use Rattle.declarations.proofs.ClassLemmas.{every_holds, same_class}
use Rattle.declarations.proofs.ReaderLemmas.{remains_span, remains_within, classes_sign, first_finds, first_sticks}
use Rattle.declarations.proofs.ReaderLemmas.{heads_either, heads_none, heads_sign, lacks, mark_finds, mark_sticks}
use Rattle.declarations.proofs.ReaderLemmas.{other_finds, other_sticks, perhaps_stays, sign_finds, then_fails}
use Rattle.declarations.proofs.ReaderLemmas.{then_finds, then_sticks}
use Rattle.declarations.proofs.RuleFormLemmas.{found_reads, only_reading, rule_fewer, stuck_fault}
use Rattle.declarations.proofs.RuleLemmas.{starts}
use Rattle.declarations.proofs.SignLemmas.{signs_group}
use Rattle.declarations.proofs.SortLemmas.{is_group_sign, groups, sort_of, unseen}
use Rattle.declarations.proofs.TableReaderLemmas.{table_reads}

or_nothing : (x y : Bool) → (x || false && y) ≡ x
or_nothing true y = refl
or_nothing false y = refl

segment_heads : (cs : List SignClass) → heads rule.next_segment cs ≡ heads (one signs.PathSeparator) cs
segment_heads [] = refl
segment_heads (c ∷ cs) = or_nothing (is signs.PathSeparator c) (rule.is_entry_segment c)

-- signs can begin with `-` and a literal where they can begin with `-`
minus_heads : (cs : List SignClass)
    → heads (Then (one signs.Minus) (one signs.Literal)) cs ≡ heads (one signs.Minus) cs
minus_heads [] = refl
minus_heads (c ∷ cs) = or_nothing (is signs.Minus c) (is signs.Literal c)

pub begins_minus : (b : Bool) (trees : List TokenTree) → b ≡ heads (one signs.Minus) (classes_in trees)
    → heads (Then (one signs.Minus) (one signs.Literal)) (classes_in trees) ≡ b
begins_minus b trees e = minus_heads (classes_in trees) ∙ sym e

pub begins_segment : (b : Bool) (trees : List TokenTree) → b ≡ heads (one signs.PathSeparator) (classes_in trees)
    → heads rule.next_segment (classes_in trees) ≡ b
begins_segment b trees e = segment_heads (classes_in trees) ∙ sym e

pub starts_entry : IsStart rules follows (rule.entry ∷ [])
starts_entry = starts rule.entry refl refl

pub starts_path : IsStart rules follows (rule.entry_path ∷ [])
starts_path = starts rule.entry_path refl refl

pub starts_value : IsStart rules follows (rule.entry_value ∷ [])
starts_value = starts rule.entry_value refl refl

pub starts_literal : IsStart rules follows (rule.entry_literal ∷ [])
starts_literal = starts rule.entry_literal refl refl

-- ---- values

pub expression_reads : (trees : List TokenTree) (result : Result (Bor (List TokenTree)) (Bor (List TokenTree)))
    → MatchResult result
    (λ rest. StopsAt in_expression true trees rest.now)
    (λ left. StopsAt in_expression false trees left.now)
    → ReadsRule expression trees result
expression_reads = table_reads in_expression expression refl

-- a value and an expression go on alike after their first sign, if it can begin a value
value_into : (c : SignClass) → rule.continues c ≡ false → into rules rule.entry_value [] c ≡ into rules expression [] c
value_into signs.Equals h = absurd (both_ways _ h refl)
value_into signs.Greater h = absurd (both_ways _ h refl)
value_into signs.Arrow h = absurd (both_ways _ h refl)
value_into (signs.Word words.Auto) h = refl
value_into (signs.Word _) h = refl
value_into (signs.Keyword keywords.Async) h = refl
value_into (signs.Keyword _) h = refl
value_into _ h = refl

value_step : (c : SignClass) → rule.continues c ≡ false
    → step rules (rule.entry_value ∷ []) c ≡ step rules (expression ∷ []) c
value_step c h = ap (λ s. or_else s None) (value_into c h)

value_find : (c : SignClass) (cs : List SignClass) → rule.continues c ≡ false
    → find rules rule.entry_value (c ∷ cs) ≡ find rules expression (c ∷ cs)
unfolding find
value_find c cs h =
    scan_step rules (rule.entry_value ∷ []) c cs (step rules (expression ∷ []) c) (value_step c h)
    ∙ sym (scan_step rules (expression ∷ []) c cs (step rules (expression ∷ []) c) refl)

value_found : (trees rest : List TokenTree) (class : SignClass) → BeginsWith trees class rest
    → rule.continues class ≡ false
    → find rules rule.entry_value (classes_in trees) ≡ find rules expression (classes_in trees)
value_found trees rest class b h =
    ap (find rules rule.entry_value) (classes_sign trees rest class b)
    ∙ (value_find class (classes_in rest) h ∙ ap (find rules expression) (sym (classes_sign trees rest class b)))

pub value_reads : (trees rest : List TokenTree) (class : SignClass)
    (result : Result (Bor (List TokenTree)) (Bor (List TokenTree))) → BeginsWith trees class rest
    → rule.continues class ≡ false → ReadsRule expression trees result
    → ReadsRule rule.entry_value trees result
value_reads trees rest class (Ok after) b h r =
    record { events = r.events; found = value_found trees rest class b h ∙ r.found; remains = r.remains }
value_reads trees rest class (Err left) b h r =
    record { stuck = value_found trees rest class b h ∙ r.stuck; remains = r.remains }

none_begins : (c : SignClass) → rule.continues c ≡ true → may_begin rule.entry_value c ≡ false
none_begins c h = go (may_begin rule.entry_value c) refl
  where
    apart : (not (rule.continues c && may_begin rule.entry_value c)) ≡ true
    apart = every_holds (λ d. not (rule.continues d && may_begin rule.entry_value d)) refl c

    go : (b : Bool) → may_begin rule.entry_value c ≡ b → b ≡ false
    go false e = refl
    go true e = absurd (both_ways _ (rw (h, e) refl) apart)

pub value_sticks : (trees rest : List TokenTree) (class : SignClass) → BeginsWith trees class rest
    → rule.continues class ≡ true
    → Sticks rule.entry_value trees trees
value_sticks trees rest class b h =
    lacks rule.entry_value trees (heads_sign rule.entry_value trees rest class b ∙ none_begins class h) refl

pub value_ends : (trees : List TokenTree) → trees ≡ [] → Sticks rule.entry_value trees trees
value_ends trees e = lacks rule.entry_value trees (heads_none rule.entry_value trees e) refl

pub ruleset values = (value_reads, value_sticks, value_ends)

-- ---- lists

list_sort : (c : SignClass) → rule.is_list c ≡ true → sort_of c ≡ groups
list_sort signs.Restriction h = refl
list_sort signs.Parentheses h = refl
list_sort signs.Brackets h = refl
list_sort signs.Braces h = refl
list_sort (signs.Word words.Auto) h = absurd (both_ways _ refl h)
list_sort (signs.Word _) h = absurd (both_ways _ refl h)
list_sort (signs.Keyword keywords.Async) h = absurd (both_ways _ refl h)
list_sort (signs.Keyword _) h = absurd (both_ways _ refl h)
list_sort _ h = absurd (both_ways _ refl h)

list_class : (d : Delimiter) (f : Forest) → has_no_delimiters d ≡ false → rule.is_list (group_class d f) ≡ true
list_class delimiters.Parenthesis f h =
    elim (is_restriction f) as (λ b. rule.is_list (parentheses_class b) ≡ true) [ true ↦ refl | false ↦ refl ]
list_class delimiters.Bracket f h = refl
list_class delimiters.Brace f h = refl
list_class delimiters.None f h = absurd (both_ways _ h refl)

bare_class : (d : Delimiter) (f : Forest) → has_no_delimiters d ≡ true → rule.is_list (group_class d f) ≡ false
bare_class delimiters.None f h = unseen (λ c. rule.is_list c ≡ false) f refl refl refl refl refl
bare_class delimiters.Parenthesis f h = absurd (both_ways _ refl h)
bare_class delimiters.Bracket f h = absurd (both_ways _ refl h)
bare_class delimiters.Brace f h = absurd (both_ways _ refl h)

begins_group : (trees rest : List TokenTree) (g : Grouped) → trees ≡ Group g ∷ rest
    → BeginsWith trees (group_class g.delimiter g.stream) rest
begins_group trees rest g whole = record {
  front = Group g ∷ [];
  whole = whole;
  fewer = rw whole (omega arith);
  read = rw whole (signs_group g rest);
}

pub list_at : (trees rest : List TokenTree) (g : Grouped) (bare : Bool) → trees ≡ Group g ∷ rest
    → bare ≡ has_no_delimiters g.delimiter → bare ≡ false
    → IsListAt trees (Group g) rest
list_at trees rest g bare whole is h = record {
  whole = whole;
  class = group_class g.delimiter g.stream;
  begins = begins_group trees rest g whole;
  is = list_class g.delimiter g.stream (sym is ∙ h);
}

pub bare_group : (trees rest : List TokenTree) (g : Grouped) (bare : Bool) → trees ≡ Group g ∷ rest
    → bare ≡ has_no_delimiters g.delimiter → bare ≡ true
    → heads rule.entry_list (classes_in trees) ≡ false
bare_group trees rest g bare whole is h =
    heads_sign rule.entry_list trees rest (group_class g.delimiter g.stream) (begins_group trees rest g whole)
    ∙ bare_class g.delimiter g.stream (sym is ∙ h)

pub no_list : (trees : List TokenTree)
    → ((g : Grouped) (rest : List TokenTree) → trees ≡ Group g ∷ rest → ⊥)
    → heads rule.entry_list (classes_in trees) ≡ false
unfolding classes_in
no_list trees none = go (signs_in.signs trees) refl
  where
    class : (sign : signs_in.Sign) (after : List signs_in.Sign) (b : Bool)
        → signs_in.signs trees ≡ sign ∷ after → rule.is_list sign.class ≡ b
        → b ≡ false
    class sign after false e h = refl
    class sign after true e h =
        let at = is_group_sign trees sign after e (list_sort sign.class h) in
        absurd (none at.0 at.1.more at.1.whole)

    go : (all : List signs_in.Sign) → signs_in.signs trees ≡ all
        → heads rule.entry_list (signs_in.classes_of (signs_in.signs trees)) ≡ false
    go [] e = rw e refl
    go (sign ∷ after) e = rw e (class sign after (rule.is_list sign.class) e refl)

pub ruleset lists = (list_at, no_list, bare_group)

-- ---- what follows a path

either_heads : (a b : G) (trees : List TokenTree) → heads a (classes_in trees) ≡ false
    → heads b (classes_in trees) ≡ false
    → heads (Either a b) (classes_in trees) ≡ false
either_heads a b trees h j = heads_either a b (classes_in trees) ∙ rw (h, j) refl

pub list_args : (trees rest : List TokenTree) (tree : TokenTree) → IsListAt trees tree rest
    → Finds rule.entry_rest trees rest
list_args trees rest tree at =
    let list : Finds rule.entry_list trees rest =
    mark_finds _ _ trees rest (sign_finds rule.is_list trees rest at.class at.begins at.is) in
    let begins : heads rule.entry_list (classes_in trees) ≡ true =
    heads_sign rule.entry_list trees rest at.class at.begins ∙ at.is in
    first_finds _ _ trees rest
    (heads_either rule.entry_list rule.with_value (classes_in trees) ∙ or_left _ _ begins)
    (first_finds _ _ trees rest begins list)

begins_equals : (trees rest : List TokenTree) (class : SignClass) → BeginsWith trees class rest
    → is signs.Equals class ≡ true
    → BeginsWith trees signs.Equals rest
begins_equals trees rest class b h = subst (λ c. BeginsWith trees c rest) (same_class signs.Equals class h) b

pub value_args : (trees from_value rest : List TokenTree) → heads rule.entry_list (classes_in trees) ≡ false
    → (class : SignClass) → BeginsWith trees class from_value → is signs.Equals class ≡ true
    → Finds rule.entry_value from_value rest
    → Finds rule.entry_rest trees rest
value_args trees from_value rest none class begun same f =
    let b = begins_equals trees from_value class begun same in
    let equals = sign_finds (is signs.Equals) trees from_value signs.Equals b refl in
    let all : Finds rule.with_value trees rest =
    mark_finds _ _ trees rest (then_finds _ _ trees from_value rest equals (mark_finds _ _ from_value rest f)) in
    let begins : heads rule.with_value (classes_in trees) ≡ true =
    heads_sign rule.with_value trees from_value signs.Equals b in
    first_finds _ _ trees rest
    (heads_either rule.entry_list rule.with_value (classes_in trees) ∙ rw (none, begins) refl)
    (other_finds rule.entry_list rule.with_value trees rest none refl all)

pub value_args_stick : (trees from_value left : List TokenTree) → heads rule.entry_list (classes_in trees) ≡ false
    → (class : SignClass) → BeginsWith trees class from_value → is signs.Equals class ≡ true
    → Sticks rule.entry_value from_value left
    → Sticks rule.entry_rest trees left
value_args_stick trees from_value left none class begun same f =
    let b = begins_equals trees from_value class begun same in
    let equals = sign_finds (is signs.Equals) trees from_value signs.Equals b refl in
    let all : Sticks rule.with_value trees left =
    mark_sticks _ _ trees left (then_fails _ _ trees from_value left equals (mark_sticks _ _ from_value left f)) in
    let begins : heads rule.with_value (classes_in trees) ≡ true =
    heads_sign rule.with_value trees from_value signs.Equals b in
    first_sticks _ _ trees left
    (heads_either rule.entry_list rule.with_value (classes_in trees) ∙ rw (none, begins) refl)
    (other_sticks rule.entry_list rule.with_value trees left none refl all)

pub value_has : (trees from_value value rest : List TokenTree) (class : SignClass) → BeginsWith trees class from_value
    → is signs.Equals class ≡ true → Finds rule.entry_value from_value rest → from_value ≡ value ++ rest
    → (from : List TokenTree) × BeginsWith trees signs.Equals from × Reads (ByRule rule.entry_value) from value rest
value_has trees from_value value rest class b h f whole = (
  from_value,
  begins_equals trees from_value class b h,
  found_reads rule.entry_value starts_value from_value value rest f whole,
)

value_begins : (c : SignClass) → may_begin rule.with_value c ≡ is signs.Equals c
value_begins c = or_nothing (is signs.Equals c) (may_begin (Then (Mark Value) rule.entry_value) c)

stay_args : (trees : List TokenTree) → heads rule.entry_list (classes_in trees) ≡ false
    → heads rule.with_value (classes_in trees) ≡ false
    → Finds rule.entry_rest trees trees
stay_args trees h j =
    perhaps_stays (Either rule.entry_list rule.with_value) trees
    (either_heads rule.entry_list rule.with_value trees h j)

pub other_args : (trees rest : List TokenTree) (class : SignClass) → heads rule.entry_list (classes_in trees) ≡ false
    → BeginsWith trees class rest → is signs.Equals class ≡ false
    → Finds rule.entry_rest trees trees
other_args trees rest class none b h =
    stay_args trees none (heads_sign rule.with_value trees rest class b ∙ (value_begins class ∙ h))

pub no_args : (trees : List TokenTree) → trees ≡ [] → Finds rule.entry_rest trees trees
no_args trees e = stay_args trees (heads_none rule.entry_list trees e) (heads_none rule.with_value trees e)

pub ruleset arguments = (list_args, value_args, value_args_stick, value_has, other_args, no_args)

-- ---- entries

pub literal_parts : (trees path literal rest : List TokenTree) → Finds rule.entry_literal trees rest → path ≡ []
    → trees ≡ literal ++ rest
    → HasLiteral trees path literal rest
literal_parts trees path literal rest f none whole =
    record { no_path = none; literal_read = found_reads rule.entry_literal starts_literal trees literal rest f whole }

pub ruleset literals = (mark_finds, mark_sticks, literal_parts)

pub named_parts : (trees path from_args rest : List TokenTree) (kind : EntryKind)
    → Finds rule.entry_path trees from_args
    → trees ≡ path ++ from_args → HasArgs kind from_args rest
    → HasParts kind trees path rest
named_parts trees path from_args rest kinds.Path f whole args =
    subst (λ r. Reads (ByRule rule.entry_path) trees path r) args
    (found_reads rule.entry_path starts_path trees path from_args f whole)
named_parts trees path from_args rest (kinds.List g) f whole args = record {
  from_list = from_args;
  path_read = found_reads rule.entry_path starts_path trees path from_args f whole;
  list = args;
}
named_parts trees path from_args rest (kinds.Value value) f whole args = record {
  from_equals = from_args;
  from_value = args.0;
  path_read = found_reads rule.entry_path starts_path trees path from_args f whole;
  equals = args.1;
  value_read = args.2;
}
named_parts trees path from_args rest (kinds.Literal l) f whole args = absurd args

pub named_fails : (trees from_args left : List TokenTree) → Finds rule.entry_path trees from_args
    → Sticks rule.entry_rest from_args left
    → Sticks rule.named_entry trees left
named_fails trees from_args left f h = mark_sticks _ _ trees left (then_fails _ _ trees from_args left f h)

pub ruleset paths = (named_fails, mark_finds, mark_sticks, then_finds, then_fails, then_sticks, named_parts)

pub literal_first : (trees rest : List TokenTree) (class : SignClass)
    (result : Result (Entry × Bor (List TokenTree)) (Bor (List TokenTree))) → BeginsWith trees class rest
    → may_begin rule.literal_entry class ≡ true → ReadsEntry rule.literal_entry trees result
    → ReadsEntry rule.entry trees result
literal_first trees rest class (Ok found) b h r = (
  first_finds rule.literal_entry rule.named_entry trees found.1.now
      (heads_sign rule.literal_entry trees rest class b ∙ h) r.0,
  r.1,
)
literal_first trees rest class (Err left) b h r =
    first_sticks rule.literal_entry rule.named_entry trees left.now
    (heads_sign rule.literal_entry trees rest class b ∙ h) r

named_other : (trees : List TokenTree) (result : Result (Entry × Bor (List TokenTree)) (Bor (List TokenTree)))
    → heads rule.literal_entry (classes_in trees) ≡ false → ReadsEntry rule.named_entry trees result
    → ReadsEntry rule.entry trees result
named_other trees (Ok found) h r =
    (other_finds rule.literal_entry rule.named_entry trees found.1.now h refl r.0, r.1)
named_other trees (Err left) h r = other_sticks rule.literal_entry rule.named_entry trees left.now h refl r

pub named_second : (trees rest : List TokenTree) (class : SignClass)
    (result : Result (Entry × Bor (List TokenTree)) (Bor (List TokenTree))) → BeginsWith trees class rest
    → may_begin rule.literal_entry class ≡ false → ReadsEntry rule.named_entry trees result
    → ReadsEntry rule.entry trees result
named_second trees rest class result b h r =
    named_other trees result (heads_sign rule.literal_entry trees rest class b ∙ h) r

pub named_none : (trees : List TokenTree) (result : Result (Entry × Bor (List TokenTree)) (Bor (List TokenTree)))
    → trees ≡ [] → ReadsEntry rule.named_entry trees result
    → ReadsEntry rule.entry trees result
named_none trees result e r = named_other trees result (heads_none rule.literal_entry trees e) r

pub ruleset kinds_of = (literal_first, named_second, named_none)

-- ---- the contracts

entry_part : (trees rest : List TokenTree) → Finds rule.entry trees rest
    → (part : List TokenTree) × Reads (ByRule rule.entry) trees part rest
entry_part trees rest f = (
  trees_of f.remains.front,
  found_reads rule.entry starts_entry trees (trees_of f.remains.front) rest f f.remains.whole,
)

pub entry_at : (trees rest : List TokenTree) (found : Entry) → Finds rule.entry trees rest
    → HasParts found.kind trees found.path.now rest
    → IsPlainEntryAt trees found rest
entry_at trees rest found f parts =
    let at = entry_part trees rest f in record { part = at.0; reads = at.1; parts = parts }

pub entry_only : (trees rest : List TokenTree) → Finds rule.entry trees rest → IsOnlyRest rule.entry trees rest
entry_only trees rest f part2 rest2 reads =
    let at = entry_part trees rest f in
    (only_reading rule.entry starts_entry trees at.0 rest at.1 part2 rest2 reads).1

pub entry_fewer : (trees rest : List TokenTree) → Finds rule.entry trees rest → length rest < length trees
entry_fewer trees rest f =
    let at = entry_part trees rest f in rule_fewer rule.entry starts_entry trees at.0 rest refl at.1

pub entry_fault : (trees left : List TokenTree) (at : ℕ) → Sticks rule.entry trees left
    → at ≡ length trees - length left
    → FaultAt (ByRule rule.entry) trees at
entry_fault trees left at f counted =
    let within = remains_within trees left f.remains in
    stuck_fault rule.entry starts_entry trees left at f (omega arith)

pub entry_span : (trees left : List TokenTree) (at : ℕ) (span : Option Extent) → Sticks rule.entry trees left
    → at ≡ length trees - length left → span ≡ first_extent left
    → span ≡ extent_at trees at
entry_span trees left at span f counted first = remains_span trees left at span f.remains counted first
