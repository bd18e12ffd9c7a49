-- A function by its parts.
use Rattle.std.proofs.Common.{◌≡◌, refl, sym, ◌∙◌, ap, subst, ℕ, ◌-◌, List, [], ◌∷◌}
use Rattle.std.proofs.Common.{◌++◌, Option, length, arith}
use Rattle.std.specs.Prelude.{MatchResult, Result, Err}
use Rattle.std.specs.Borrow.{Bor}
use Rattle.grammars.specs.Deterministic.{IsStart}
use Rattle.grammars.specs.Grammar.{Mark, Marked, Sign, Then}
use Rattle.grammars.proofs.WordLemmas.{find_mark}
use Rattle.pm_span.specs.Extent.{Extent}
use Rattle.pm_token.specs.Leaf.{Name}
use Rattle.pm_stream.specs.declared.stream.Group.{Group as Grouped}
use Rattle.pm_stream.specs.declared.stream.TokenTree.{TokenTree}
use Rattle.declarations.specs.Fault.{extent_at, first_extent}
use Rattle.declarations.specs.Function.{AreParentheses, HasBody, HasEnd, HasFunctionParts, HasReturn}
use Rattle.declarations.specs.Function.{IsFunction, IsNameAt}
use Rattle.declarations.specs.Parameter.{LeadsTo}
use Rattle.declarations.specs.Reader.{Finds, Sticks, classes_in}
use Rattle.declarations.specs.Reading.{FaultAt, Reads}
use Rattle.declarations.specs.Signs as signs_in
use Rattle.declarations.specs.Whole.{IsWhole}
use Rattle.item_tables.specs.declared.class.Keyword.TheVariants as keywords
use Rattle.declarations.specs.declared.function.Function.{Function}
use Rattle.declarations.specs.rules.Bodies.{function_end, function_rest, name, returning}
use Rattle.item_tables.specs.Classes.{is_round}
use Rattle.declarations.specs.rules.Functions as rule
use Rattle.declarations.specs.rules.Names.{Fields, Front, G, Label, Named, key}
use Rattle.declarations.specs.rules.Names.{word}
use Rattle.declarations.specs.rules.Parts.{attributes, generics, visibility, where_clause}
use Rattle.declarations.specs.rules.Pieces.{ByRule}
use Rattle.declarations.specs.rules.Rules.{follows, rules}
use Rattle.declarations.proofs.ParameterLemmas.{finds_leads, leads_finds, leads_on, leads_sticks}
use Rattle.declarations.proofs.ReaderLemmas.{mark_finds}
use Rattle.declarations.proofs.ReaderLemmas.{mark_sticks, remains_self}
use Rattle.declarations.proofs.ReaderLemmas.{remains_span, remains_within}
use Rattle.declarations.proofs.ReaderLemmas.{then_fails, then_finds, then_sticks}
use Rattle.declarations.proofs.RuleFormLemmas.{found_reads}
use Rattle.declarations.proofs.RuleLemmas.{starts}
use Rattle.declarations.proofs.RuleWholeLemmas.{left_whole, stuck_whole, whole_read}
use Rattle.declarations.proofs.FunctionPartLemmas.{name_finds, parentheses_find}
use Rattle.declarations.proofs.StartLemmas as begin

-- ---- where a reading begins

pub starts_function : IsStart rules follows (rule.function_item ∷ [])
starts_function = starts rule.function_item refl refl

starts_attributes : IsStart rules follows (attributes ∷ [])
starts_attributes = begin.attributes_starts

starts_visibility : IsStart rules follows (visibility ∷ [])
starts_visibility = begin.visibility_starts

starts_qualifiers : IsStart rules follows (rule.qualifiers ∷ [])
starts_qualifiers = starts rule.qualifiers refl refl

starts_fn : IsStart rules follows (key keywords.Fn ∷ [])
starts_fn = starts (key keywords.Fn) refl refl

starts_generics : IsStart rules follows (generics ∷ [])
starts_generics = begin.generics_starts

starts_where : IsStart rules follows (where_clause ∷ [])
starts_where = begin.where_clause_starts

-- ---- what follows the parameters

-- a where clause and a body
abbrev clause_end : G
clause_end = Then where_clause function_end

pub end_finds : (trees from_clause from_body rest : List TokenTree) → Finds rule.return_type_rule trees from_clause
    → Finds where_clause from_clause from_body → Finds function_end from_body rest
    → Finds returning trees rest
end_finds trees from_clause from_body rest r w b =
    then_finds rule.return_type_rule clause_end trees from_clause rest r
    (then_finds where_clause function_end from_clause from_body rest w b)

pub return_sticks : (trees left : List TokenTree) → Sticks rule.return_type_rule trees left
    → Sticks returning trees left
return_sticks trees left r = then_sticks rule.return_type_rule clause_end trees left r

pub clause_sticks : (trees from_clause left : List TokenTree) → Finds rule.return_type_rule trees from_clause
    → Sticks where_clause from_clause left
    → Sticks returning trees left
clause_sticks trees from_clause left r w =
    then_fails rule.return_type_rule clause_end trees from_clause left r
    (then_sticks where_clause function_end from_clause left w)

pub end_sticks : (trees from_clause from_body left : List TokenTree) → Finds rule.return_type_rule trees from_clause
    → Finds where_clause from_clause from_body → Sticks function_end from_body left
    → Sticks returning trees left
end_sticks trees from_clause from_body left r w b =
    then_fails rule.return_type_rule clause_end trees from_clause left r
    (then_fails where_clause function_end from_clause from_body left w b)

pub end_has : (trees from_clause from_body rest returned clause : List TokenTree) (body : Option (Bor Grouped))
    → HasReturn trees returned from_clause → Finds where_clause from_clause from_body
    → from_clause ≡ clause ++ from_body → HasBody body from_body rest
    → HasEnd trees returned clause body rest
end_has trees from_clause from_body rest returned clause body r w whole b = record {
  from_clause = from_clause;
  from_body = from_body;
  return_type = r;
  clause_read = found_reads where_clause starts_where from_clause clause from_body w whole;
  body_read = b;
}

pub ruleset ends = (end_finds, return_sticks, clause_sticks, end_sticks, end_has)

-- ---- the parts, one after the other

mark_here : (l : Label) (trees : List TokenTree) → Finds (Mark l) trees trees
mark_here l trees =
    record { events = Marked l ∷ []; found = find_mark rules l (classes_in trees); remains = remains_self trees }

-- past a part
on : (g a b : G) (trees mid next : List TokenTree) → LeadsTo g trees (Then a b) mid → Finds a mid next
    → LeadsTo g trees b next
on g a b trees mid next l f = leads_on g (Then a b) b trees mid next l (finds_leads a b mid next f)

stuck : (g a b : G) (trees mid left : List TokenTree) → LeadsTo g trees (Then a b) mid → Sticks a mid left
    → Sticks g trees left
stuck g a b trees mid left l f = leads_sticks g (Then a b) trees mid left l (then_sticks a b mid left f)

-- from a part on
abbrev from_round : G
from_round = Then (Sign is_round) returning

abbrev from_generics : G
from_generics = Then generics function_rest

abbrev from_name : G
from_name = Then name from_generics

abbrev from_fn : G
from_fn = Then (key keywords.Fn) from_name

abbrev from_qualifiers : G
from_qualifiers = Then rule.qualifiers from_fn

abbrev from_visibility : G
from_visibility = Then visibility (Then (Mark Front) from_qualifiers)

-- what is still to be read of a function, and where
abbrev Left : G → List TokenTree → List TokenTree → Type 0
Left g trees mid = LeadsTo rule.function_item trees g mid

pub past_attributes : (trees next : List TokenTree) → Finds attributes trees next → Left from_visibility trees next
past_attributes trees next f = finds_leads attributes from_visibility trees next f

pub past_visibility : (trees mid next : List TokenTree) → Left from_visibility trees mid → Finds visibility mid next
    → Left from_qualifiers trees next
past_visibility trees mid next l f =
    on rule.function_item (Mark Front) from_qualifiers trees next next
    (on rule.function_item visibility (Then (Mark Front) from_qualifiers) trees mid next l f) (mark_here Front next)

pub past_qualifiers : (trees mid next : List TokenTree) → Left from_qualifiers trees mid
    → Finds rule.qualifiers mid next
    → Left from_fn trees next
past_qualifiers trees mid next l f = on rule.function_item rule.qualifiers from_fn trees mid next l f

pub past_fn : (trees mid next : List TokenTree) → Left from_fn trees mid → Finds (key keywords.Fn) mid next
    → Left from_name trees next
past_fn trees mid next l f = on rule.function_item (key keywords.Fn) from_name trees mid next l f

pub past_name : (trees mid next : List TokenTree) (n : Name) → Left from_name trees mid → IsNameAt mid n next
    → Left from_generics trees next
past_name trees mid next n l at =
    on rule.function_item name from_generics trees mid next l
    (mark_finds Named word mid next (name_finds mid next n at))

pub past_generics : (trees mid next : List TokenTree) → Left from_generics trees mid → Finds generics mid next
    → Left from_round trees next
past_generics trees mid next l f =
    on rule.function_item (Mark Fields) from_round trees next next
    (on rule.function_item generics function_rest trees mid next l f) (mark_here Fields next)

pub past_parameters : (trees mid next : List TokenTree) (g : Grouped) → Left from_round trees mid
    → AreParentheses mid g next
    → Left returning trees next
past_parameters trees mid next g l at =
    on rule.function_item (Sign is_round) returning trees mid next l (parentheses_find mid next g at)

pub past_end : (trees mid rest : List TokenTree) → Left returning trees mid → Finds returning mid rest
    → Finds rule.function_item trees rest
past_end trees mid rest l f = leads_finds rule.function_item returning trees mid rest l f

-- ---- where a part is missing

pub attributes_stick : (trees left : List TokenTree) → Sticks attributes trees left
    → Sticks rule.function_item trees left
attributes_stick trees left f = then_sticks attributes from_visibility trees left f

pub fn_sticks : (trees mid left : List TokenTree) → Left from_fn trees mid → Sticks (key keywords.Fn) mid left
    → Sticks rule.function_item trees left
fn_sticks trees mid left l f = stuck rule.function_item (key keywords.Fn) from_name trees mid left l f

pub name_sticks : (trees mid left : List TokenTree) → Left from_name trees mid → Sticks word mid left
    → Sticks rule.function_item trees left
name_sticks trees mid left l f =
    stuck rule.function_item name from_generics trees mid left l (mark_sticks Named word mid left f)

pub generics_stick : (trees mid left : List TokenTree) → Left from_generics trees mid → Sticks generics mid left
    → Sticks rule.function_item trees left
generics_stick trees mid left l f = stuck rule.function_item generics function_rest trees mid left l f

pub parameters_stick : (trees mid left : List TokenTree) → Left from_round trees mid → Sticks (Sign is_round) mid left
    → Sticks rule.function_item trees left
parameters_stick trees mid left l f = stuck rule.function_item (Sign is_round) returning trees mid left l f

pub rest_sticks : (trees mid left : List TokenTree) → Left returning trees mid → Sticks returning mid left
    → Sticks rule.function_item trees left
rest_sticks trees mid left l f = leads_sticks rule.function_item returning trees mid left l f

-- ---- the result

-- the result is the tree list from the error on
pub fails : (trees : List TokenTree) (result : Result (Function × Bor (List TokenTree)) (Bor (List TokenTree)))
    (error left : Bor (List TokenTree)) → result ≡ Err error → error ≡ left
    → Sticks rule.function_item trees left.now
    → MatchResult result
    (λ found. Finds rule.function_item trees found.1.now × HasFunctionParts trees found.0 found.1.now)
    (λ rest. Sticks rule.function_item trees rest.now)
fails trees result error left e same f =
    let at : result ≡ Err left = e ∙ ap Err same in
    subst
    (λ r. MatchResult r
    (λ found. Finds rule.function_item trees found.1.now × HasFunctionParts trees found.0 found.1.now)
    (λ rest. Sticks rule.function_item trees rest.now))
    (sym at) f

-- ---- what each part is

-- the trees before the rest of what is found
pub fn_reads : (trees rest : List TokenTree) → Finds (key keywords.Fn) trees rest
    → (fn : List TokenTree) × Reads (ByRule (key keywords.Fn)) trees fn rest
fn_reads trees rest f = (
  signs_in.trees_of f.remains.front,
  found_reads (key keywords.Fn) starts_fn trees (signs_in.trees_of f.remains.front) rest f f.remains.whole,
)

pub attributes_part : (trees part rest : List TokenTree) → Finds attributes trees rest → trees ≡ part ++ rest
    → Reads (ByRule attributes) trees part rest
attributes_part trees part rest f whole = found_reads attributes starts_attributes trees part rest f whole

pub visibility_part : (trees part rest : List TokenTree) → Finds visibility trees rest → trees ≡ part ++ rest
    → Reads (ByRule visibility) trees part rest
visibility_part trees part rest f whole = found_reads visibility starts_visibility trees part rest f whole

pub qualifiers_part : (trees part rest : List TokenTree) → Finds rule.qualifiers trees rest → trees ≡ part ++ rest
    → Reads (ByRule rule.qualifiers) trees part rest
qualifiers_part trees part rest f whole = found_reads rule.qualifiers starts_qualifiers trees part rest f whole

pub generics_part : (trees part rest : List TokenTree) → Finds generics trees rest → trees ≡ part ++ rest
    → Reads (ByRule generics) trees part rest
generics_part trees part rest f whole = found_reads generics starts_generics trees part rest f whole

-- ---- what is promised

pub function_all : (trees rest : List TokenTree) (function : Function) → Finds rule.function_item trees rest
    → HasFunctionParts trees function rest → length rest ≡ 0
    → IsFunction trees function
function_all trees [] function f parts none =
    record { all = whole_read rule.function_item starts_function trees [] f none; parts = parts }
function_all trees (tree ∷ rest) function f parts none = absurd (omega arith)

pub function_left : (trees rest : List TokenTree) (at : ℕ) → Finds rule.function_item trees rest
    → (length rest ≡ 0 → ⊥) → at ≡ length trees - length rest
    → FaultAt (IsWhole (ByRule rule.function_item)) trees at
function_left trees rest at f some counted =
    let within = remains_within trees rest f.remains in
    left_whole rule.function_item starts_function trees rest at f some (omega arith)

pub function_stuck : (trees left : List TokenTree) (at : ℕ) → Sticks rule.function_item trees left
    → at ≡ length trees - length left
    → FaultAt (IsWhole (ByRule rule.function_item)) trees at
function_stuck trees left at f counted =
    let within = remains_within trees left f.remains in
    stuck_whole rule.function_item starts_function trees left at f (omega arith)

pub left_span : (trees rest : List TokenTree) (at : ℕ) (span : Option Extent) → Finds rule.function_item trees rest
    → at ≡ length trees - length rest → span ≡ first_extent rest
    → span ≡ extent_at trees at
left_span trees rest at span f counted first = remains_span trees rest at span f.remains counted first

pub stuck_span : (trees left : List TokenTree) (at : ℕ) (span : Option Extent) → Sticks rule.function_item trees left
    → at ≡ length trees - length left → span ≡ first_extent left
    → span ≡ extent_at trees at
stuck_span trees left at span f counted first = remains_span trees left at span f.remains counted first

pub ruleset promises = (function_all, function_left, function_stuck, left_span, stuck_span)
