-- The paths of types.
use Rattle.std.proofs.Common.{◌≡◌, refl, sym, ◌∙◌, ap, subst, ℕ, ◌-◌, ◌<◌, Bool, true, false, ◌&&◌, ◌||◌, List, []}
use Rattle.std.proofs.Common.{◌∷◌, ◌++◌, Option, Some, None, inl, inr, length, arith}
use Rattle.std.proofs.lemmas.Bool.{both_ways, or_left}
use Rattle.std.specs.Prelude.{Result, Ok, Err}
use Rattle.std.specs.Borrow.{Bor}
use Rattle.grammars.specs.Deterministic.{IsStart}
use Rattle.grammars.specs.Find.{Found, Past, Stuck, find, front}
use Rattle.grammars.specs.First.{heads, may_begin}
use Rattle.grammars.specs.Grammar.{Either, Mark, Nothing, One, Sign, Then, To, perhaps}
use Rattle.grammars.specs.Machine.{step}
use Rattle.grammars.proofs.FindLemmas.{scan_step}
use Rattle.grammars.proofs.WordLemmas.{find_first, find_other, find_skips}
use Rattle.pm_span.specs.Extent.{Extent}
use Rattle.pm_token.specs.Leaf.{Name}
use Rattle.pm_token.specs.declared.delimiters.Delimiter.TheVariants as delimiters
use Rattle.pm_stream.specs.declared.stream.Group.{Group as Grouped}
use Rattle.pm_stream.specs.declared.stream.TokenTree.{TokenTree}
use Rattle.pm_stream.specs.declared.stream.TokenTree.TheVariants.{Group, Ident}
use Rattle.declarations.specs.Bare.{bare_trees}
use Rattle.declarations.specs.Fault.{extent_at, first_extent}
use Rattle.declarations.specs.Function.{AreParentheses, HasReturn}
use Rattle.declarations.specs.Parameter.{LeadsTo}
use Rattle.declarations.specs.Reader.{Finds, Remains, Sticks, classes_in}
use Rattle.declarations.specs.Reading.{FaultAt}
use Rattle.declarations.specs.Signs.{BeginsWith, name_class}
use Rattle.declarations.specs.TypePath.{Goes, HasAngle, HasArguments, HasNext}
use Rattle.declarations.specs.TypePath.{HasPathParts, HasRound, IsLast, IsSegmentAt, IsStep}
use Rattle.declarations.specs.TypePath.{IsTypePath, MaySeparate, ReadsStep, Segments, at_first, onward}
use Rattle.declarations.specs.Whole.{IsWhole}
use Rattle.item_tables.specs.declared.class.SignClass.{SignClass}
use Rattle.item_tables.specs.declared.class.SignClass.TheVariants as signs
use Rattle.item_tables.specs.declared.class.Keyword.TheVariants as keywords
use Rattle.item_tables.specs.declared.class.Word.TheVariants as words
use Rattle.declarations.specs.declared.type_path.Last.{Last}
use Rattle.declarations.specs.declared.type_path.PathArguments.{PathArguments}
use Rattle.declarations.specs.declared.type_path.PathArguments.TheVariants as kinds
use Rattle.declarations.specs.declared.type_path.Segment.{Segment}
use Rattle.declarations.specs.declared.type_path.Transition.{Transition}
use Rattle.declarations.specs.declared.type_path.TypePath.{TypePath}
use Rattle.item_tables.specs.Classes.{is, is_round, opens}
use Rattle.declarations.specs.rules.Functions.{return_type_rule, with_arrow}
use Rattle.declarations.specs.rules.Names.{AfterArguments, AfterName, AfterSeparator, G, Label, Name as RuleName}
use Rattle.declarations.specs.rules.Names.{Path, Returns, one}
use Rattle.declarations.specs.rules.Paths as rule
use Rattle.declarations.specs.rules.Pieces.{ByRule}
use Rattle.declarations.specs.rules.Rules.{follows, rules}
use Rattle.declarations.specs.rules.Types.{type}
use Rattle.declarations.proofs.ClassLemmas.{same_class}
use Rattle.declarations.proofs.FunctionPartLemmas.{begins_name, no_parentheses, no_sign, parentheses_find}
use Rattle.declarations.proofs.ParameterLemmas.{finds_leads, leads_finds, leads_on, leads_sign, leads_sticks}
use Rattle.declarations.proofs.ReaderLemmas.{classes_sign, first_finds, heads_either, heads_none, heads_nothing}
use Rattle.declarations.proofs.ReaderLemmas.{heads_sign, lacks, perhaps_stays, remains_on, remains_self, remains_sign}
use Rattle.declarations.proofs.ReaderLemmas.{remains_span, remains_within, sign_finds, then_fails}
use Rattle.declarations.proofs.ReaderLemmas.{then_sticks}
use Rattle.declarations.proofs.RuleFormLemmas.{found_reads}
use Rattle.declarations.proofs.RuleLemmas.{starts}
use Rattle.declarations.proofs.RuleWholeLemmas.{left_whole, stuck_whole, whole_read}
use Rattle.declarations.proofs.SortLemmas.{is_identifier_sign, names, sort_of}

-- ---- where a reading begins

pub starts_path : IsStart rules follows (rule.type_path ∷ [])
starts_path = starts rule.type_path refl refl

starts_arguments : IsStart rules follows (rule.generic_arguments ∷ [])
starts_arguments = starts rule.generic_arguments refl refl

-- ---- what comes after a name, and after a `::`

abbrev after_name : G
after_name = rule.path AfterName

abbrev after_separator : G
after_separator = rule.path AfterSeparator

-- perhaps `::` and a next segment
abbrev may_go_on : G
may_go_on = perhaps rule.further_segment

opens_name : (c : SignClass) → opens c ≡ true → step rules (after_name ∷ []) c ≡ Some (One c ∷ [], rule.angle_rest ∷ [])
opens_name signs.Less h = refl
opens_name signs.LessJoint h = refl
opens_name (signs.Word words.Auto) h = absurd (both_ways _ refl h)
opens_name (signs.Word _) h = absurd (both_ways _ refl h)
opens_name (signs.Keyword keywords.Async) h = absurd (both_ways _ refl h)
opens_name (signs.Keyword _) h = absurd (both_ways _ refl h)
opens_name _ h = absurd (both_ways _ refl h)

opens_separator : (c : SignClass) → opens c ≡ true
    → step rules (after_separator ∷ []) c ≡ Some (One c ∷ [], rule.angle_rest ∷ [])
opens_separator signs.Less h = refl
opens_separator signs.LessJoint h = refl
opens_separator (signs.Word words.Auto) h = absurd (both_ways _ refl h)
opens_separator (signs.Word _) h = absurd (both_ways _ refl h)
opens_separator (signs.Keyword keywords.Async) h = absurd (both_ways _ refl h)
opens_separator (signs.Keyword _) h = absurd (both_ways _ refl h)
opens_separator _ h = absurd (both_ways _ refl h)

round_name : (c : SignClass) → is_round c ≡ true
    → step rules (after_name ∷ []) c ≡ Some (One c ∷ [], rule.round_rest ∷ [])
round_name signs.Parentheses h = refl
round_name signs.Restriction h = refl
round_name (signs.Word words.Auto) h = absurd (both_ways _ refl h)
round_name (signs.Word _) h = absurd (both_ways _ refl h)
round_name (signs.Keyword keywords.Async) h = absurd (both_ways _ refl h)
round_name (signs.Keyword _) h = absurd (both_ways _ refl h)
round_name _ h = absurd (both_ways _ refl h)

round_separator : (c : SignClass) → is_round c ≡ true
    → step rules (after_separator ∷ []) c ≡ Some (One c ∷ [], rule.round_rest ∷ [])
round_separator signs.Parentheses h = refl
round_separator signs.Restriction h = refl
round_separator (signs.Word words.Auto) h = absurd (both_ways _ refl h)
round_separator (signs.Word _) h = absurd (both_ways _ refl h)
round_separator (signs.Keyword keywords.Async) h = absurd (both_ways _ refl h)
round_separator (signs.Keyword _) h = absurd (both_ways _ refl h)
round_separator _ h = absurd (both_ways _ refl h)

round_own : (c : SignClass) → is_round c ≡ true
    → step rules (rule.round_arguments ∷ []) c ≡ Some (One c ∷ [], rule.round_rest ∷ [])
round_own c h = rw h refl

segment_own : (c : SignClass) → rule.is_segment c ≡ true
    → step rules (rule.segment ∷ []) c ≡ Some (One c ∷ [], after_name ∷ [])
segment_own c h = rw h refl

segment_separator : (c : SignClass) → rule.is_segment c ≡ true
    → step rules (after_separator ∷ []) c ≡ Some (One c ∷ [], after_name ∷ [])
segment_separator signs.SelfValue h = refl
segment_separator signs.SelfType h = refl
segment_separator signs.Super h = refl
segment_separator signs.Crate h = refl
segment_separator (signs.Word words.Auto) h = refl
segment_separator (signs.Word _) h = refl
segment_separator (signs.Keyword keywords.Async) h = absurd (both_ways _ refl h)
segment_separator (signs.Keyword _) h = absurd (both_ways _ refl h)
segment_separator _ h = absurd (both_ways _ refl h)

-- ---- rules that go on as other rules

front_none : (f : Found SignClass Label) → f ≡ front [] f
front_none (Past e r) = refl
front_none (Stuck l) = refl

leads_same : (g h : G) (trees : List TokenTree) → find rules g (classes_in trees) ≡ find rules h (classes_in trees)
    → LeadsTo g trees h trees
leads_same g h trees e = record {
  events = [];
  found = e ∙ front_none (find rules h (classes_in trees));
  remains = remains_self trees;
}

leads_here : (g : G) (trees : List TokenTree) → LeadsTo g trees g trees
leads_here g trees = leads_same g g trees refl

goes_on : (g h : G) (trees mid rest : List TokenTree) (next : Option Segment) → LeadsTo g trees h mid
    → Goes h mid rest next
    → Goes g trees rest next
goes_on g h trees mid rest None l f = leads_finds g h trees mid rest l f
goes_on g h trees mid rest (Some next) l f = leads_on g h after_name trees mid next.from_arguments.now l f

begins_as : (trees rest : List TokenTree) (x class : SignClass) → BeginsWith trees class rest → is x class ≡ true
    → BeginsWith trees x rest
begins_as trees rest x class b h = subst (λ c. BeginsWith trees c rest) (same_class x class h) b

-- rules that go on alike after parentheses find the same
round_find : (g : G) (c : SignClass) (cs : List SignClass)
    → step rules (g ∷ []) c ≡ Some (One c ∷ [], rule.round_rest ∷ []) → is_round c ≡ true
    → find rules g (c ∷ cs) ≡ find rules rule.round_arguments (c ∷ cs)
unfolding find
round_find g c cs e h =
    scan_step rules (g ∷ []) c cs (Some (One c ∷ [], rule.round_rest ∷ [])) e
    ∙ sym (scan_step rules (rule.round_arguments ∷ []) c cs (Some (One c ∷ [], rule.round_rest ∷ []))
    (round_own c h))

round_leads : (g : G) (trees rest : List TokenTree) (class : SignClass) → BeginsWith trees class rest
    → step rules (g ∷ []) class ≡ Some (One class ∷ [], rule.round_rest ∷ []) → is_round class ≡ true
    → LeadsTo g trees rule.round_arguments trees
round_leads g trees rest class b e h =
    leads_same g rule.round_arguments trees
    (ap (find rules g) (classes_sign trees rest class b)
    ∙ (round_find g class (classes_in rest) e h
    ∙ ap (find rules rule.round_arguments) (sym (classes_sign trees rest class b))))

-- ---- names of segments

segment_sort : (c : SignClass) → rule.is_segment c ≡ true → sort_of c ≡ names
segment_sort signs.SelfValue h = refl
segment_sort signs.SelfType h = refl
segment_sort signs.Super h = refl
segment_sort signs.Crate h = refl
segment_sort (signs.Word words.Auto) h = refl
segment_sort (signs.Word _) h = refl
segment_sort (signs.Keyword keywords.Async) h = absurd (both_ways _ refl h)
segment_sort (signs.Keyword _) h = absurd (both_ways _ refl h)
segment_sort _ h = absurd (both_ways _ refl h)

segment_heads : (cs : List SignClass)
    → heads rule.segment cs ≡ heads {N = RuleName} {L = Label} (Sign rule.is_segment) cs
segment_heads [] = refl
segment_heads (c ∷ cs) = refl

pub segment_at : (trees rest : List TokenTree) (n : Name) (class : SignClass) (b : Bool) → trees ≡ Ident n ∷ rest
    → class ≡ name_class n → b ≡ rule.is_segment class → b ≡ true
    → IsSegmentAt trees n rest
segment_at trees rest n class b whole named is h =
    record { whole = whole; is_name = ap rule.is_segment (sym named) ∙ (sym is ∙ h) }

pub no_segment : (trees rest : List TokenTree) (n : Name) (class : SignClass) (b : Bool) → trees ≡ Ident n ∷ rest
    → class ≡ name_class n → b ≡ rule.is_segment class → b ≡ false
    → heads rule.segment (classes_in trees) ≡ false
no_segment trees rest n class b whole named is h =
    heads_sign rule.segment trees rest (name_class n) (begins_name trees rest n whole)
    ∙ (ap rule.is_segment (sym named) ∙ (sym is ∙ h))

pub no_ident : (trees : List TokenTree) → ((n : Name) (rest : List TokenTree) → trees ≡ Ident n ∷ rest → ⊥)
    → heads rule.segment (classes_in trees) ≡ false
no_ident trees none =
    segment_heads (classes_in trees)
    ∙ no_sign rule.is_segment trees
    (λ sign after e h.
    let at = is_identifier_sign trees sign after e (segment_sort sign.class h) in none at.0 at.1.more at.1.whole)

pub ruleset segments = (segment_at, no_segment, no_ident)

segment_begins : (trees rest : List TokenTree) (n : Name) → IsSegmentAt trees n rest
    → BeginsWith trees (name_class n) rest
segment_begins trees rest n at = begins_name trees rest n at.whole

segment_leads : (trees rest : List TokenTree) (n : Name) → IsSegmentAt trees n rest
    → LeadsTo rule.segment trees after_name rest
segment_leads trees rest n at =
    leads_sign rule.segment after_name trees rest (name_class n) (segment_begins trees rest n at)
    (segment_own (name_class n) at.is_name)

-- ---- the next segment

or_nothing : (x y : Bool) → (x || false && y) ≡ x
or_nothing true y = refl
or_nothing false y = refl

module _ (trees from_name : List TokenTree) (class : SignClass) (b : BeginsWith trees class from_name) where
  module _ (h : is signs.PathSeparator class ≡ true) where
    separator_here : BeginsWith trees signs.PathSeparator from_name
    separator_here = begins_as trees from_name signs.PathSeparator class b h

    separated_leads : LeadsTo may_go_on trees rule.segment from_name
    separated_leads = leads_sign may_go_on rule.segment trees from_name signs.PathSeparator separator_here refl

    pub next_some : (s : Segment) → s.from_name.now ≡ from_name
        → IsSegmentAt from_name s.name.now s.from_arguments.now
        → Goes may_go_on trees trees (Some s) × HasNext trees (Some s)
    next_some s same at = (
      leads_on may_go_on rule.segment after_name trees from_name s.from_arguments.now separated_leads
          (segment_leads from_name s.from_arguments.now s.name.now at),
      (
        subst (λ t. BeginsWith trees signs.PathSeparator t) (sym same) separator_here,
        subst (λ t. IsSegmentAt t s.name.now s.from_arguments.now) (sym same) at,
      ),
    )

    pub next_sticks : (left : List TokenTree) → left ≡ from_name
        → heads rule.segment (classes_in from_name) ≡ false
        → Sticks may_go_on trees left
    next_sticks left same none =
        leads_sticks may_go_on rule.segment trees from_name left separated_leads
        (subst (λ t. Sticks rule.segment from_name t) (sym same) (lacks rule.segment from_name none refl))

  pub next_none : is signs.PathSeparator class ≡ false → Goes may_go_on trees trees None × HasNext trees None
  next_none h = (
    perhaps_stays rule.further_segment trees
        (heads_sign rule.further_segment trees from_name class b
        ∙ (or_nothing (is signs.PathSeparator class) (may_begin rule.segment class) ∙ h)),
    refl,
  )

pub next_end : (trees : List TokenTree) → trees ≡ [] → Goes may_go_on trees trees None × HasNext trees None
next_end trees e = (perhaps_stays rule.further_segment trees (heads_none rule.further_segment trees e), refl)

pub ruleset nexts = (next_some, next_sticks, next_none, next_end)

-- ---- arguments in angle brackets

-- `>` and the rest of a path
abbrev closing : G
closing = To (is signs.Greater) (Path AfterArguments)

pub angle_sticks : (trees left : List TokenTree) → Sticks rule.generic_arguments trees left
    → Sticks rule.angle_rest trees left
angle_sticks trees left f = then_sticks rule.generic_arguments closing trees left f

module _ (trees from_close : List TokenTree) (f : Finds rule.generic_arguments trees from_close) where
  pub unclosed_end : from_close ≡ [] → Sticks rule.angle_rest trees from_close
  unclosed_end e =
      then_fails rule.generic_arguments closing trees from_close from_close f
      (lacks closing from_close (heads_none closing from_close e) refl)

  module _ (after : List TokenTree) (class : SignClass) (b : BeginsWith from_close class after) where
    pub unclosed : is signs.Greater class ≡ false → Sticks rule.angle_rest trees from_close
    unclosed h =
        then_fails rule.generic_arguments closing trees from_close from_close f
        (lacks closing from_close (heads_sign closing from_close after class b ∙ h) refl)

    module _ (h : is signs.Greater class ≡ true) where
      close_here : BeginsWith from_close signs.Greater after
      close_here = begins_as from_close after signs.Greater class b h

      closed_leads : LeadsTo rule.angle_rest trees may_go_on after
      closed_leads =
          leads_on rule.angle_rest closing may_go_on trees from_close after
          (finds_leads rule.generic_arguments closing trees from_close f)
          (leads_sign closing may_go_on from_close after signs.Greater close_here refl)

      pub closed_sticks : (left : List TokenTree) → Sticks may_go_on after left → Sticks rule.angle_rest trees left
      closed_sticks left s = leads_sticks rule.angle_rest may_go_on trees after left closed_leads s

      pub closed_step : (inside rest : Bor (List TokenTree)) (next : Option Segment) → rest.now ≡ after
          → trees ≡ inside.now ++ from_close → Goes may_go_on after after next → HasNext after next
          → IsStep rule.angle_rest HasAngle trees
          (record { arguments = kinds.AngleBracketed inside; rest = rest; next = next })
      closed_step inside rest next same whole goes has =
          let go = goes_on rule.angle_rest may_go_on trees after after next closed_leads goes in record {
            goes = subst (λ t. Goes rule.angle_rest trees t next) (sym same) go;
            arguments = record {
              from_close = from_close;
              inside_read = found_reads rule.generic_arguments starts_arguments trees inside.now from_close f whole;
              close = subst (λ t. BeginsWith from_close signs.Greater t) (sym same) close_here;
            };
            next = subst (λ t. HasNext t next) (sym same) has;
            remains = subst (λ t. Remains t trees) (sym same)
                (remains_on trees from_close after f.remains (remains_sign from_close after class b));
          }

pub ruleset angles = (angle_sticks, unclosed_end, unclosed, closed_sticks, closed_step)

-- ---- arguments in parentheses

arrow_heads : (cs : List SignClass) → heads with_arrow cs ≡ heads (one signs.Arrow) cs
arrow_heads [] = refl
arrow_heads (c ∷ cs) = or_nothing (is signs.Arrow c) (may_begin (Then (Mark Returns) type) c)

arrow_find : (cs : List SignClass) → heads with_arrow cs ≡ true
    → find rules rule.round_rest cs ≡ find rules return_type_rule cs
arrow_find cs h =
    find_first rules (Either with_arrow rule.further_segment) Nothing cs
    (heads_either with_arrow rule.further_segment cs ∙ or_left _ _ h)
    ∙ (find_first rules with_arrow rule.further_segment cs h ∙ sym (find_first rules with_arrow Nothing cs h))

no_arrow_find : (cs : List SignClass) → heads with_arrow cs ≡ false
    → find rules rule.round_rest cs ≡ find rules may_go_on cs
no_arrow_find cs h = go (heads rule.further_segment cs) refl
  where
    both : (b : Bool) → heads rule.further_segment cs ≡ b → heads (Either with_arrow rule.further_segment) cs ≡ b
    both b e = heads_either with_arrow rule.further_segment cs ∙ rw (h, e) refl

    go : (b : Bool) → heads rule.further_segment cs ≡ b → find rules rule.round_rest cs ≡ find rules may_go_on cs
    go true e =
        find_first rules (Either with_arrow rule.further_segment) Nothing cs (both true e)
        ∙ (find_other rules with_arrow rule.further_segment cs h refl
        ∙ sym (find_first rules rule.further_segment Nothing cs e))
    go false e =
        find_skips rules rule.round_rest cs
        (heads_either (Either with_arrow rule.further_segment) Nothing cs ∙ rw (both false e, heads_nothing cs) refl)
        refl
        ∙ sym (find_skips rules may_go_on cs
        (heads_either rule.further_segment Nothing cs ∙ rw (e, heads_nothing cs) refl) refl)

pub no_round : (trees : List TokenTree)
    → ((g : Grouped) (rest : List TokenTree) → trees ≡ Group g ∷ rest → g.delimiter ≡ delimiters.Parenthesis → ⊥)
    → Sticks rule.round_arguments trees trees
no_round trees none =
    then_sticks (Sign is_round) rule.round_rest trees trees (no_parentheses trees none)

module _ (trees from_output : List TokenTree) (g : Bor Grouped) (whole : trees ≡ Group g.now ∷ from_output)
    (round : g.now.delimiter ≡ delimiters.Parenthesis) (has : Bool)
    (h : has ≡ heads (one signs.Arrow) (classes_in from_output)) where
  at_round : AreParentheses trees g.now from_output
  at_round = record { whole = whole; round = round }

  round_finds : Finds (Sign is_round) trees from_output
  round_finds = parentheses_find trees from_output g.now at_round

  to_rest : LeadsTo rule.round_arguments trees rule.round_rest from_output
  to_rest = finds_leads (Sign is_round) rule.round_rest trees from_output round_finds

  module _ (there : has ≡ true) where
    to_returned : LeadsTo rule.round_arguments trees return_type_rule from_output
    to_returned =
        leads_on rule.round_arguments rule.round_rest return_type_rule trees from_output from_output to_rest
        (leads_same rule.round_rest return_type_rule from_output
        (arrow_find (classes_in from_output) (arrow_heads (classes_in from_output) ∙ (sym h ∙ there))))

    pub output_sticks : (left : List TokenTree) → Sticks return_type_rule from_output left
        → Sticks rule.round_arguments trees left
    output_sticks left f = leads_sticks rule.round_arguments return_type_rule trees from_output left to_returned f

    pub output_step : (output rest : Bor (List TokenTree)) → Finds return_type_rule from_output rest.now
        → HasReturn from_output output.now rest.now
        → IsStep rule.round_arguments HasRound trees
        (record { arguments = kinds.Parenthesized g output; rest = rest; next = None })
    output_step output rest f read = record {
      goes = leads_finds rule.round_arguments return_type_rule trees from_output rest.now to_returned f;
      arguments = record { from_output = from_output; round = at_round; returned = read };
      next = refl;
      remains = remains_on trees from_output rest.now round_finds.remains f.remains;
    }

  module _ (missing : has ≡ false) where
    to_next : LeadsTo rule.round_arguments trees may_go_on from_output
    to_next =
        leads_on rule.round_arguments rule.round_rest may_go_on trees from_output from_output to_rest
        (leads_same rule.round_rest may_go_on from_output
        (no_arrow_find (classes_in from_output) (arrow_heads (classes_in from_output) ∙ (sym h ∙ missing))))

    pub group_sticks : (left : List TokenTree) → Sticks may_go_on from_output left
        → Sticks rule.round_arguments trees left
    group_sticks left f = leads_sticks rule.round_arguments may_go_on trees from_output left to_next f

    pub group_step : (output rest : Bor (List TokenTree)) (next : Option Segment) → output.now ≡ []
        → rest.now ≡ from_output → Goes may_go_on from_output from_output next → HasNext from_output next
        → IsStep rule.round_arguments HasRound trees
        (record { arguments = kinds.Parenthesized g output; rest = rest; next = next })
    group_step output rest next none same goes has =
        let go = goes_on rule.round_arguments may_go_on trees from_output from_output next to_next goes in record {
          goes = subst (λ t. Goes rule.round_arguments trees t next) (sym same) go;
          arguments = record { from_output = from_output; round = at_round; returned = inr (none, sym same) };
          next = subst (λ t. HasNext t next) (sym same) has;
          remains = subst (λ t. Remains t trees) (sym same) round_finds.remains;
        }

pub ruleset rounds = (no_round, output_sticks, output_step, group_sticks, group_step)

-- ---- what comes after a name

argued_angle : (trees from inside rest : List TokenTree) (class : SignClass) (arguments : PathArguments)
    → MaySeparate trees from → BeginsWith from class inside → opens class ≡ true → HasAngle arguments inside rest
    → HasArguments arguments trees rest
argued_angle trees from inside rest class (kinds.AngleBracketed given) may b h has = record {
  from_open = from;
  from_inside = inside;
  separator = may;
  class = class;
  open_read = b;
  is_open = h;
  closed = has;
}
argued_angle trees from inside rest class kinds.None may b h has = absurd has
argued_angle trees from inside rest class (kinds.Parenthesized g output) may b h has = absurd has

argued_round : (trees from rest : List TokenTree) (arguments : PathArguments) → MaySeparate trees from
    → HasRound arguments from rest
    → HasArguments arguments trees rest
argued_round trees from rest (kinds.Parenthesized g output) may has =
    record { from_group = from; separator = may; grouped = has }
argued_round trees from rest kinds.None may has = absurd has
argued_round trees from rest (kinds.AngleBracketed given) may has = absurd has

-- a step from a later rule on is a step of the rule that leads to it
lift : (h : G) (has : PathArguments → List TokenTree → List TokenTree → Type 0) (trees mid : List TokenTree)
    (result : Result Transition (Bor (List TokenTree))) → LeadsTo after_name trees h mid
    → ((arguments : PathArguments) (rest : List TokenTree) → has arguments mid rest → HasArguments arguments trees rest)
    → ReadsStep h has mid result
    → ReadsStep after_name HasArguments trees result
lift h has trees mid (Ok s) l argued r = record {
  goes = goes_on after_name h trees mid s.rest.now s.next l r.goes;
  arguments = argued s.arguments s.rest.now r.arguments;
  next = r.next;
  remains = remains_on trees mid s.rest.now l.remains r.remains;
}
lift h has trees mid (Err left) l argued r = leads_sticks after_name h trees mid left.now l r

to_separator : (trees from : List TokenTree) → BeginsWith trees signs.PathSeparator from
    → LeadsTo after_name trees after_separator from
to_separator trees from s = leads_sign after_name after_separator trees from signs.PathSeparator s refl

-- after a name and `::`
module _ (trees from : List TokenTree) (s : BeginsWith trees signs.PathSeparator from) where
  separator_stuck : (left : List TokenTree) → Sticks after_separator from left → Sticks after_name trees left
  separator_stuck left f = leads_sticks after_name after_separator trees from left (to_separator trees from s) f

  pub separator_ends : from ≡ [] → Sticks after_name trees from
  separator_ends e =
      separator_stuck from (lacks after_separator from (heads_none after_separator from e) refl)

  module _ (inside : List TokenTree) (class : SignClass) (b : BeginsWith from class inside) (opened : Bool)
      (o : opened ≡ opens class) where
    pub separated_angle : (result : Result Transition (Bor (List TokenTree))) → opened ≡ true
        → ReadsStep rule.angle_rest HasAngle inside result
        → ReadsStep after_name HasArguments trees result
    separated_angle result h r =
        lift rule.angle_rest HasAngle trees inside result
        (leads_on after_name after_separator rule.angle_rest trees from inside (to_separator trees from s)
        (leads_sign after_separator rule.angle_rest from inside class b (opens_separator class (sym o ∙ h))))
        (λ arguments rest has. argued_angle trees from inside rest class arguments (inl s) b (sym o ∙ h) has) r

    module _ (closed : opened ≡ false) (round : Bool) (i : round ≡ is_round class) where
      pub separated_round : (result : Result Transition (Bor (List TokenTree))) → round ≡ true
          → ReadsStep rule.round_arguments HasRound from result
          → ReadsStep after_name HasArguments trees result
      separated_round result h r =
          lift rule.round_arguments HasRound trees from result
          (leads_on after_name after_separator rule.round_arguments trees from from (to_separator trees from s)
          (round_leads after_separator from inside class b (round_separator class (sym i ∙ h)) (sym i ∙ h)))
          (λ arguments rest has. argued_round trees from rest arguments (inl s) has) r

      pub separated_segment : (n : Segment) (rest : Bor (List TokenTree)) → rest.now ≡ trees
          → n.from_name.now ≡ from → IsSegmentAt from n.name.now n.from_arguments.now
          → IsStep after_name HasArguments trees (record { arguments = kinds.None; rest = rest; next = Some n })
      separated_segment n rest whole same at =
          let to_name : LeadsTo after_separator from after_name n.from_arguments.now =
          leads_sign after_separator after_name from n.from_arguments.now (name_class n.name.now)
          (segment_begins from n.from_arguments.now n.name.now at)
          (segment_separator (name_class n.name.now) at.is_name) in
          record {
            goes = leads_on after_name after_separator after_name trees from n.from_arguments.now
                (to_separator trees from s) to_name;
            arguments = sym whole;
            next = (
              subst (λ t. BeginsWith t signs.PathSeparator n.from_name.now) (sym whole)
                  (subst (λ t. BeginsWith trees signs.PathSeparator t) (sym same) s),
              subst (λ t. IsSegmentAt t n.name.now n.from_arguments.now) (sym same) at,
            );
            remains = subst (λ t. Remains t trees) (sym whole) (remains_self trees);
          }

      pub separated_sticks : (left : List TokenTree) → round ≡ false → left ≡ from
          → heads rule.segment (classes_in from) ≡ false
          → Sticks after_name trees left
      separated_sticks left h same none =
          let no : rule.is_segment class ≡ false = sym (heads_sign rule.segment from inside class b) ∙ none in
          let nothing : heads after_separator (classes_in from) ≡ false =
          heads_sign after_separator from inside class b
          ∙ apart (opens class) (is_round class) (rule.is_segment class) (sym o ∙ closed) (sym i ∙ h) no in
          subst (λ t. Sticks after_name trees t) (sym same)
          (separator_stuck from (lacks after_separator from nothing refl))
        where
          apart : (x y z : Bool) → x ≡ false → y ≡ false → z ≡ false → ((x || false) || ((y || false) || z)) ≡ false
          apart x y z e f g = rw (e, f, g) refl

pub ruleset separations = (
  separator_ends,
  separated_angle,
  separated_round,
  separated_segment,
  separated_sticks,
)

-- after a name
alone_step : (trees : List TokenTree) (rest : Bor (List TokenTree)) → rest.now ≡ trees → Finds after_name trees trees
    → IsStep after_name HasArguments trees (record { arguments = kinds.None; rest = rest; next = None })
alone_step trees rest whole f = record {
  goes = subst (λ t. Finds after_name trees t) (sym whole) f;
  arguments = sym whole;
  next = refl;
  remains = subst (λ t. Remains t trees) (sym whole) (remains_self trees);
}

-- arguments, or `::` and a next segment
abbrev goes_further : G
goes_further = Either rule.angle_arguments
    (Either rule.round_arguments (To (is signs.PathSeparator) (Path AfterSeparator)))

pub name_ends : (trees : List TokenTree) (rest : Bor (List TokenTree)) → rest.now ≡ trees → trees ≡ []
    → IsStep after_name HasArguments trees (record { arguments = kinds.None; rest = rest; next = None })
name_ends trees rest whole e =
    alone_step trees rest whole (perhaps_stays goes_further trees (heads_none goes_further trees e))

module _ (trees after : List TokenTree) (class : SignClass) (b : BeginsWith trees class after) (opened : Bool)
    (o : opened ≡ opens class) where
  pub name_angle : (result : Result Transition (Bor (List TokenTree))) → opened ≡ true
      → ReadsStep rule.angle_rest HasAngle after result
      → ReadsStep after_name HasArguments trees result
  name_angle result h r =
      lift rule.angle_rest HasAngle trees after result
      (leads_sign after_name rule.angle_rest trees after class b (opens_name class (sym o ∙ h)))
      (λ arguments rest has. argued_angle trees trees after rest class arguments (inr refl) b (sym o ∙ h) has) r

  module _ (closed : opened ≡ false) (round : Bool) (i : round ≡ is_round class) where
    pub name_round : (result : Result Transition (Bor (List TokenTree))) → round ≡ true
        → ReadsStep rule.round_arguments HasRound trees result
        → ReadsStep after_name HasArguments trees result
    name_round result h r =
        lift rule.round_arguments HasRound trees trees result
        (round_leads after_name trees after class b (round_name class (sym i ∙ h)) (sym i ∙ h))
        (λ arguments rest has. argued_round trees trees rest arguments (inr refl) has) r

    pub name_alone : (rest : Bor (List TokenTree)) → rest.now ≡ trees → round ≡ false
        → is signs.PathSeparator class ≡ false
        → IsStep after_name HasArguments trees (record { arguments = kinds.None; rest = rest; next = None })
    name_alone rest whole h j =
        alone_step trees rest whole
        (perhaps_stays goes_further trees
        (heads_sign goes_further trees after class b
        ∙ apart (opens class) (is_round class) (is signs.PathSeparator class) (sym o ∙ closed) (sym i ∙ h) j))
      where
        apart : (x y z : Bool) → x ≡ false → y ≡ false → z ≡ false → ((x || false) || ((y || false) || z)) ≡ false
        apart x y z e f g = rw (e, f, g) refl

pub name_separator : (trees from : List TokenTree) (class : SignClass) → BeginsWith trees class from
    → is signs.PathSeparator class ≡ true
    → BeginsWith trees signs.PathSeparator from
name_separator trees from class b h = begins_as trees from signs.PathSeparator class b h

pub ruleset steps = (name_ends, name_angle, name_round, name_alone, name_separator)

-- ---- the last segment

-- the path is read up to the arguments of this segment
pub record IsAt (first segment : Segment) : Type 0 where
  pub leads : LeadsTo after_name first.from_arguments.now after_name segment.from_arguments.now
  pub segments : Segments first.from_name.now segment.from_name.now
  pub name : IsSegmentAt segment.from_name.now segment.name.now segment.from_arguments.now
  pub remains : Remains segment.from_name.now first.from_name.now

pub is_first : (first : Segment) → IsSegmentAt first.from_name.now first.name.now first.from_arguments.now
    → IsAt first first
is_first first at = record {
  leads = leads_here after_name first.from_arguments.now;
  segments = at_first;
  name = at;
  remains = remains_self first.from_name.now;
}

to_arguments : (segment : Segment) → IsSegmentAt segment.from_name.now segment.name.now segment.from_arguments.now
    → Remains segment.from_arguments.now segment.from_name.now
to_arguments segment at =
    remains_sign segment.from_name.now segment.from_arguments.now (name_class segment.name.now)
    (segment_begins segment.from_name.now segment.from_arguments.now segment.name.now at)

step_goes : (s : Transition) (trees : List TokenTree) (next : Segment) → s.next ≡ Some next
    → IsStep after_name HasArguments trees s
    → LeadsTo after_name trees after_name next.from_arguments.now × HasNext s.rest.now (Some next)
step_goes s trees next e r = (
  subst (λ n. Goes after_name trees s.rest.now n) e r.goes,
  subst (λ n. HasNext s.rest.now n) e r.next,
)

pub at_next : (first segment next : Segment) (s : Transition) → s.next ≡ Some next → IsAt first segment
    → IsStep after_name HasArguments segment.from_arguments.now s
    → IsAt first next
at_next first segment next s e at r =
    let on = step_goes s segment.from_arguments.now next e r in
    let has : HasNext s.rest.now (Some next) = on.1 in
    record {
      leads = leads_on after_name after_name after_name first.from_arguments.now segment.from_arguments.now
          next.from_arguments.now at.leads on.0;
      segments = onward next.from_name.now at.segments
          (record {
            name = segment.name.now;
            from_arguments = segment.from_arguments.now;
            arguments = s.arguments;
            rest = s.rest.now;
            named = at.name;
            argued = r.arguments;
            separator = has.0;
          });
      name = has.1;
      remains = remains_on first.from_name.now segment.from_name.now next.from_name.now at.remains
          (remains_on segment.from_name.now segment.from_arguments.now next.from_name.now
          (to_arguments segment at.name)
          (remains_on segment.from_arguments.now s.rest.now next.from_name.now r.remains
          (remains_sign s.rest.now next.from_name.now signs.PathSeparator has.0)));
    }

pub next_fewer : (trees : List TokenTree) (next : Segment) (s : Transition) → s.next ≡ Some next
    → IsStep after_name HasArguments trees s
    → length next.from_arguments.now < length trees
next_fewer trees next s e r =
    let on = step_goes s trees next e r in
    let has : HasNext s.rest.now (Some next) = on.1 in
    let within = remains_within trees s.rest.now r.remains in
    let separator = has.0.fewer in
    let name = (segment_begins next.from_name.now next.from_arguments.now next.name.now has.1).fewer in
    omega (arith, within, separator, name)

pub at_last : (first segment : Segment) (last : Last) (s : Transition) → last.segment ≡ segment
    → last.arguments ≡ s.arguments → last.rest ≡ s.rest → s.next ≡ None → IsAt first segment
    → IsStep after_name HasArguments segment.from_arguments.now s
    → IsLast first last
at_last first segment last s same arguments rest e at r =
    let found : Finds after_name segment.from_arguments.now s.rest.now =
    subst (λ n. Goes after_name segment.from_arguments.now s.rest.now n) e r.goes in
    rw (same, arguments, rest) (record {
      found = leads_finds after_name after_name first.from_arguments.now segment.from_arguments.now s.rest.now at.leads
          found;
      segments = at.segments;
      name = at.name;
      arguments = r.arguments;
      remains = at.remains;
    })

pub last_sticks : (first segment : Segment) (left : List TokenTree) → IsAt first segment
    → Sticks after_name segment.from_arguments.now left
    → Sticks after_name first.from_arguments.now left
last_sticks first segment left at f =
    leads_sticks after_name after_name first.from_arguments.now segment.from_arguments.now left at.leads f

pub ruleset lasts = (is_first, at_next, next_fewer, at_last, last_sticks)

-- ---- whole paths

-- perhaps `::`
abbrev separator : G
separator = perhaps (one signs.PathSeparator)

module _ (trees after : List TokenTree) (class : SignClass) (b : BeginsWith trees class after) where
  pub separator_finds : is signs.PathSeparator class ≡ true → Finds separator trees after
  separator_finds h =
      first_finds (one signs.PathSeparator) Nothing trees after
      (heads_sign (one signs.PathSeparator) trees after class b ∙ h)
      (sign_finds (is signs.PathSeparator) trees after class b h)

  pub separator_may : is signs.PathSeparator class ≡ true → MaySeparate trees after
  separator_may h = inl (begins_as trees after signs.PathSeparator class b h)

  pub separator_stays : is signs.PathSeparator class ≡ false → Finds separator trees trees
  separator_stays h =
      perhaps_stays (one signs.PathSeparator) trees (heads_sign (one signs.PathSeparator) trees after class b ∙ h)

pub separator_missing : (trees : List TokenTree) → trees ≡ [] → Finds separator trees trees
separator_missing trees e =
    perhaps_stays (one signs.PathSeparator) trees (heads_none (one signs.PathSeparator) trees e)

pub separator_same : (trees : List TokenTree) → MaySeparate trees trees
separator_same trees = inr refl

pub ruleset separators = (separator_finds, separator_may, separator_stays, separator_missing, separator_same)

module _ (trees from_first : List TokenTree) (f : Finds separator trees from_first) where
  to_first : LeadsTo rule.type_path trees rule.segment from_first
  to_first = finds_leads separator rule.segment trees from_first f

  pub path_lacks : (left : List TokenTree) → left ≡ from_first → heads rule.segment (classes_in from_first) ≡ false
      → Sticks rule.type_path trees left
  path_lacks left same none =
      leads_sticks rule.type_path rule.segment trees from_first left to_first
      (subst (λ t. Sticks rule.segment from_first t) (sym same) (lacks rule.segment from_first none refl))

  module _ (first : Segment) (same : first.from_name.now ≡ from_first)
      (at : IsSegmentAt from_first first.name.now first.from_arguments.now) where
    pub first_at : IsSegmentAt first.from_name.now first.name.now first.from_arguments.now
    first_at = subst (λ t. IsSegmentAt t first.name.now first.from_arguments.now) (sym same) at

    to_name : LeadsTo rule.type_path trees after_name first.from_arguments.now
    to_name =
        leads_on rule.type_path rule.segment after_name trees from_first first.from_arguments.now to_first
        (segment_leads from_first first.from_arguments.now first.name.now at)

    pub path_sticks : (left : List TokenTree) → Sticks after_name first.from_arguments.now left
        → Sticks rule.type_path trees left
    path_sticks left s =
        leads_sticks rule.type_path after_name trees first.from_arguments.now left to_name s

    pub path_finds : (last : Last) → IsLast first last → Finds rule.type_path trees last.rest.now
    path_finds last l =
        leads_finds rule.type_path after_name trees first.from_arguments.now last.rest.now to_name l.found

    pub path_remains : (last : Last) → IsLast first last → Remains last.segment.from_name.now trees
    path_remains last l =
        remains_on trees from_first last.segment.from_name.now f.remains
        (subst (λ t. Remains last.segment.from_name.now t) same l.remains)

    pub path_parts : (path : TypePath) (last : Last) → MaySeparate trees from_first → IsLast first last
        → trees ≡ path.prefix.now ++ last.segment.from_name.now → path.name ≡ last.segment.name
        → path.arguments ≡ last.arguments
        → HasPathParts trees path last.rest.now
    path_parts path last may l whole name arguments = record {
      from_first = from_first;
      from_name = last.segment.from_name.now;
      from_arguments = last.segment.from_arguments.now;
      separator = may;
      segments = subst (λ t. Segments t last.segment.from_name.now) same l.segments;
      prefix = whole;
      name = rw name l.name;
      arguments = rw arguments l.arguments;
    }

pub ruleset paths = (path_lacks, first_at, path_sticks, path_finds, path_remains, path_parts)

-- ---- what is promised

path_all : (trees rest : List TokenTree) (path : TypePath) → Finds rule.type_path trees rest
    → HasPathParts trees path rest → length rest ≡ 0
    → IsTypePath trees path
path_all trees [] path f parts empty =
    record { all = whole_read rule.type_path starts_path trees [] f empty; parts = parts }
path_all trees (tree ∷ rest) path f parts empty = absurd (omega arith)

pub promise_path : (trees inner rest : List TokenTree) (path : TypePath) → inner ≡ bare_trees trees
    → Finds rule.type_path inner rest → HasPathParts inner path rest → length rest ≡ 0
    → IsTypePath (bare_trees trees) path
promise_path trees inner rest path same f parts empty =
    subst (λ t. IsTypePath t path) same (path_all inner rest path f parts empty)

pub promise_left : (trees inner rest : List TokenTree) (at : ℕ) → inner ≡ bare_trees trees
    → Finds rule.type_path inner rest → (length rest ≡ 0 → ⊥) → at ≡ length inner - length rest
    → FaultAt (IsWhole (ByRule rule.type_path)) (bare_trees trees) at
promise_left trees inner rest at same f some counted =
    let within = remains_within inner rest f.remains in
    subst (λ t. FaultAt (IsWhole (ByRule rule.type_path)) t at) same
    (left_whole rule.type_path starts_path inner rest at f some (omega arith))

pub promise_stuck : (trees inner left : List TokenTree) (at : ℕ) → inner ≡ bare_trees trees
    → Sticks rule.type_path inner left → at ≡ length inner - length left
    → FaultAt (IsWhole (ByRule rule.type_path)) (bare_trees trees) at
promise_stuck trees inner left at same f counted =
    let within = remains_within inner left f.remains in
    subst (λ t. FaultAt (IsWhole (ByRule rule.type_path)) t at) same
    (stuck_whole rule.type_path starts_path inner left at f (omega arith))

pub left_span : (trees inner rest : List TokenTree) (at : ℕ) (span : Option Extent) → inner ≡ bare_trees trees
    → Finds rule.type_path inner rest → at ≡ length inner - length rest → span ≡ first_extent rest
    → span ≡ extent_at (bare_trees trees) at
left_span trees inner rest at span same f counted first =
    subst (λ t. span ≡ extent_at t at) same (remains_span inner rest at span f.remains counted first)

pub stuck_span : (trees inner left : List TokenTree) (at : ℕ) (span : Option Extent) → inner ≡ bare_trees trees
    → Sticks rule.type_path inner left → at ≡ length inner - length left → span ≡ first_extent left
    → span ≡ extent_at (bare_trees trees) at
stuck_span trees inner left at span same f counted first =
    subst (λ t. span ≡ extent_at t at) same (remains_span inner left at span f.remains counted first)

pub ruleset promises = (promise_path, promise_left, promise_stuck, left_span, stuck_span)
