-- The parameters of functions.
use Rattle.std.proofs.Common.{◌≡◌, refl, sym, ◌∙◌, ap, subst, ℕ, ◌-◌, ◌<◌, Bool, true, false, not, ◌&&◌, ◌||◌, List, []}
use Rattle.std.proofs.Common.{◌∷◌, ◌++◌, None, Option, Some, inl, inr, append-nil, length, arith}
use Rattle.std.proofs.lemmas.Bool.{both_ways, or_left}
use Rattle.std.specs.Prelude.{MatchResult, Result, Ok, Err}
use Rattle.std.specs.Borrow.{Bor}
use Rattle.grammars.specs.Deterministic.{IsStart}
use Rattle.grammars.specs.Find.{Found, Past, Stuck, and_then, find, front, scan}
use Rattle.grammars.specs.First.{heads, may_begin}
use Rattle.grammars.specs.Grammar.{Either, Event, Mark, Nothing, One, Sign, Then, perhaps}
use Rattle.grammars.specs.Machine.{is_nullable, step}
use Rattle.grammars.proofs.FindLemmas.{front_front, scan_append, scan_step}
use Rattle.grammars.proofs.WordLemmas.{find_first, find_lacks, find_nothing, find_other, find_skips, find_then}
use Rattle.pm_span.specs.Extent.{Extent}
use Rattle.pm_stream.specs.declared.stream.TokenTree.{TokenTree}
use Rattle.declarations.specs.Entry.{IsOnlyRest}
use Rattle.declarations.specs.Fault.{extent_at, first_extent}
use Rattle.declarations.specs.Range.{in_range}
use Rattle.declarations.specs.Parameter.{HasEnd, HasKind, HasPatternType, HasSelfType, HasType, IsParameterAt}
use Rattle.declarations.specs.Parameter.{LeadsTo, ReadsEnd, ReadsFront, ReadsNamed, ReadsPattern, ReadsTyped}
use Rattle.declarations.specs.Parameter.{front_of, left_of}
use Rattle.declarations.specs.Reader.{Finds, ReadsRule, Remains, Sticks, classes_in}
use Rattle.declarations.specs.Reading.{FaultAt, IsOnly, Reads}
use Rattle.declarations.specs.Tables.{StopsAt}
use Rattle.declarations.specs.Signs.{BeginsWith, trees_of}
use Rattle.item_tables.specs.declared.class.SignClass.{SignClass}
use Rattle.item_tables.specs.declared.class.SignClass.TheVariants as signs
use Rattle.item_tables.specs.declared.class.Keyword.TheVariants as keywords
use Rattle.item_tables.specs.declared.class.Word.TheVariants as words
use Rattle.declarations.specs.declared.parameter.Parameter.{Parameter}
use Rattle.declarations.specs.declared.parameter.ParameterKind.{ParameterKind}
use Rattle.declarations.specs.declared.parameter.ParameterKind.TheVariants as kinds
use Rattle.declarations.specs.declared.parameter.Named.{Named}
use Rattle.declarations.specs.declared.parameter.Shape.{Shape}
use Rattle.declarations.specs.declared.parameter.Shape.TheVariants as shapes
use Rattle.item_tables.specs.declared.types.TypeState.TheVariants as types
use Rattle.item_tables.specs.Classes.{is, keyword, opens}
use Rattle.declarations.specs.rules.Names.{G, Label, Named as NamedPart, OfType, Outside}
use Rattle.declarations.specs.rules.Names.{Parameter as ParameterPart, Range}
use Rattle.declarations.specs.rules.Names.{Rest, key, one}
use Rattle.declarations.specs.rules.Parameters as rule
use Rattle.declarations.specs.rules.Parts.{attributes}
use Rattle.declarations.specs.rules.Pieces.{ByRule}
use Rattle.declarations.specs.rules.Rules.{follows, rules}
use Rattle.declarations.specs.rules.Types.{angle, type}
use Rattle.declarations.proofs.ClassLemmas.{every_holds, same_class}
use Rattle.declarations.proofs.ReaderLemmas.{classes_sign, first_finds, first_reads, first_sticks, heads_none}
use Rattle.declarations.proofs.ReaderLemmas.{heads_sign, lacks, mark_finds, mark_sticks, other_finds, other_reads}
use Rattle.declarations.proofs.ReaderLemmas.{other_sticks, perhaps_stays, remains_on, remains_self, remains_sign}
use Rattle.declarations.proofs.ReaderLemmas.{remains_span, remains_within, sign_finds, then_fails, then_finds}
use Rattle.declarations.proofs.ReaderLemmas.{then_reads, then_sticks}
use Rattle.declarations.proofs.RuleFormLemmas.{found_reads, only_reading, rule_fewer, stuck_fault}
use Rattle.declarations.proofs.RuleLemmas.{starts}
use Rattle.declarations.proofs.TableReaderLemmas.{table_reads}
use Rattle.declarations.proofs.StartLemmas as begin

-- ---- where a reading begins

pub starts_parameter : IsStart rules follows (rule.function_parameter ∷ [])
starts_parameter = starts rule.function_parameter refl refl

starts_attributes : IsStart rules follows (attributes ∷ [])
starts_attributes = begin.attributes_starts

starts_receiver : IsStart rules follows (rule.receiver ∷ [])
starts_receiver = starts rule.receiver refl refl

pub starts_pattern : IsStart rules follows (rule.pattern ∷ [])
starts_pattern = starts rule.pattern refl refl

starts_dots : IsStart rules follows (rule.dots ∷ [])
starts_dots = starts rule.dots refl refl

starts_type : IsStart rules follows (type ∷ [])
starts_type = begin.type_starts

-- ---- types and attributes, by the tables

pub type_reads : (trees : List TokenTree) (result : Result (Bor (List TokenTree)) (Bor (List TokenTree)))
    → MatchResult result
    (λ rest. StopsAt (in_range types.Wanted 0) true trees rest.now)
    (λ left. StopsAt (in_range types.Wanted 0) false trees left.now)
    → ReadsRule type trees result
type_reads = table_reads (in_range types.Wanted 0) type refl

-- ---- a rule that goes on as another rule

pub leads_sign : (g h : G) (trees rest : List TokenTree) (class : SignClass) → BeginsWith trees class rest
    → step rules (g ∷ []) class ≡ Some (One class ∷ [], h ∷ [])
    → LeadsTo g trees h rest
unfolding find
leads_sign g h trees rest class b e = record {
  events = One class ∷ [];
  found = ap (find rules g) (classes_sign trees rest class b)
      ∙ scan_step rules (g ∷ []) class (classes_in rest) (Some (One class ∷ [], h ∷ [])) e;
  remains = remains_sign trees rest class b;
}

pub leads_on : (g h k : G) (trees mid rest : List TokenTree) → LeadsTo g trees h mid → LeadsTo h mid k rest
    → LeadsTo g trees k rest
leads_on g h k trees mid rest a b = record {
  events = a.events ++ b.events;
  found = a.found ∙ (ap (front a.events) b.found ∙ front_front a.events b.events (find rules k (classes_in rest)));
  remains = remains_on trees mid rest a.remains b.remains;
}

pub leads_finds : (g h : G) (trees mid rest : List TokenTree) → LeadsTo g trees h mid → Finds h mid rest
    → Finds g trees rest
leads_finds g h trees mid rest a f = record {
  events = a.events ++ f.events;
  found = a.found ∙ ap (front a.events) f.found;
  remains = remains_on trees mid rest a.remains f.remains;
}

pub leads_sticks : (g h : G) (trees mid left : List TokenTree) → LeadsTo g trees h mid → Sticks h mid left
    → Sticks g trees left
leads_sticks g h trees mid left a f = record {
  stuck = a.found ∙ ap (front a.events) f.stuck;
  remains = remains_on trees mid left a.remains f.remains;
}

pub finds_leads : (a b : G) (trees mid : List TokenTree) → Finds a trees mid → LeadsTo (Then a b) trees b mid
finds_leads a b trees mid f = record {
  events = f.events;
  found = find_then rules a b (classes_in trees) ∙ ap (λ x. and_then x (find rules b)) f.found;
  remains = f.remains;
}

end_leads : (g : G) (trees rest : List TokenTree) → Finds g trees rest → LeadsTo g trees Nothing rest
end_leads g trees rest f = record {
  events = f.events;
  found = f.found ∙ (ap (λ e. Past e (classes_in rest)) (sym (append-nil f.events))
      ∙ ap (front f.events) (sym (find_nothing rules (classes_in rest))));
  remains = f.remains;
}

nothing_finds : (trees : List TokenTree) → Finds Nothing trees trees
nothing_finds trees =
    record { events = []; found = find_nothing rules (classes_in trees); remains = remains_self trees }

other_leads : (a b h : G) (trees rest : List TokenTree) → heads a (classes_in trees) ≡ false
    → is_nullable a ≡ false → LeadsTo b trees h rest
    → LeadsTo (Either a b) trees h rest
other_leads a b h trees rest d e l = record {
  events = l.events;
  found = find_other rules a b (classes_in trees) d e ∙ l.found;
  remains = l.remains;
}

-- the sign is all that the rule reads
step_finds : (g : G) (trees rest : List TokenTree) (class : SignClass) → BeginsWith trees class rest
    → step rules (g ∷ []) class ≡ Some (One class ∷ [], [])
    → Finds g trees rest
unfolding find
step_finds g trees rest class b e = record {
  events = One class ∷ [];
  found = ap (find rules g) (classes_sign trees rest class b)
      ∙ (scan_step rules (g ∷ []) class (classes_in rest) (Some (One class ∷ [], [])) e ∙ ends (classes_in rest));
  remains = remains_sign trees rest class b;
}
  where
    ends : (cs : List SignClass) → front (One class ∷ []) (scan rules [] cs) ≡ Past (One class ∷ []) cs
    ends [] = refl
    ends (c ∷ cs) = refl

-- a sign that passes the test of a class has this class
begins_as : (trees rest : List TokenTree) (x class : SignClass) → BeginsWith trees class rest → is x class ≡ true
    → BeginsWith trees x rest
begins_as trees rest x class b h = subst (λ c. BeginsWith trees c rest) (same_class x class h) b

-- a rule that reads at least one sign can begin with the first sign
pub finds_heads : (g : G) (trees rest : List TokenTree) → is_nullable g ≡ false → Finds g trees rest
    → heads g (classes_in trees) ≡ true
finds_heads g trees rest e f = go (heads g (classes_in trees)) refl
  where
    go : (b : Bool) → heads g (classes_in trees) ≡ b → b ≡ true
    go true h = refl
    go false h =
        let both : Past f.events (classes_in rest) ≡ Stuck (classes_in trees) =
        sym f.found ∙ find_lacks rules g (classes_in trees) h e in
        absurd cc

same_finds : (g h : G) (trees rest : List TokenTree) → find rules g (classes_in trees) ≡ find rules h (classes_in trees)
    → Finds h trees rest
    → Finds g trees rest
same_finds g h trees rest e f = record { events = f.events; found = e ∙ f.found; remains = f.remains }

same_sticks : (g h : G) (trees left : List TokenTree)
    → find rules g (classes_in trees) ≡ find rules h (classes_in trees) → Sticks h trees left
    → Sticks g trees left
same_sticks g h trees left e f = record { stuck = e ∙ f.stuck; remains = f.remains }

-- ---- angle brackets

or_nothing : (x y : Bool) → (x || false && y) ≡ x
or_nothing true y = refl
or_nothing false y = refl

-- the rule of arguments in angle brackets, and of the path after them
abbrev angle_rule : G
angle_rule = angle (Range types.Whole Outside)

angle_first : (c : SignClass) → may_begin rule.pattern_angle c ≡ opens c
angle_first c =
    or_nothing (may_begin angle_rule c) (may_begin (perhaps (one signs.Braces)) c)
    ∙ or_nothing (opens c) (is signs.Greater c)

pub angle_begins : (trees rest : List TokenTree) (class : SignClass) (b : Bool) → BeginsWith trees class rest
    → b ≡ opens class
    → b ≡ heads rule.pattern_angle (classes_in trees)
angle_begins trees rest class b at h =
    h ∙ (sym (angle_first class) ∙ sym (heads_sign rule.pattern_angle trees rest class at))

pub angle_none : (trees : List TokenTree) → trees ≡ [] → false ≡ heads rule.pattern_angle (classes_in trees)
angle_none trees e = sym (heads_none rule.pattern_angle trees e)

-- a type that begins with `<` begins as the rule of angle brackets does
angle_step : (c : SignClass) → opens c ≡ true → step rules (type ∷ []) c ≡ step rules (angle_rule ∷ []) c
angle_step signs.Less h = refl
angle_step signs.LessJoint h = refl
angle_step (signs.Word words.Auto) h = absurd (both_ways _ refl h)
angle_step (signs.Word _) h = absurd (both_ways _ refl h)
angle_step (signs.Keyword keywords.Async) h = absurd (both_ways _ refl h)
angle_step (signs.Keyword _) h = absurd (both_ways _ refl h)
angle_step _ h = absurd (both_ways _ refl h)

angle_find : (cs : List SignClass) → heads rule.pattern_angle cs ≡ true → find rules angle_rule cs ≡ find rules type cs
unfolding find
angle_find [] h = absurd (both_ways _ refl h)
angle_find (c ∷ cs) h =
    scan_step rules (angle_rule ∷ []) c cs (step rules (angle_rule ∷ []) c) refl
    ∙ sym (scan_step rules (type ∷ []) c cs (step rules (angle_rule ∷ []) c) (angle_step c (sym (angle_first c) ∙ h)))

pub angle_reads : (trees mid : List TokenTree) (result : Result (Bor (List TokenTree)) (Bor (List TokenTree)))
    → heads rule.pattern_angle (classes_in trees) ≡ true → Finds type trees mid
    → ReadsRule (perhaps (one signs.Braces)) mid result
    → ReadsRule rule.pattern_angle trees result
angle_reads trees mid result h f r =
    then_reads angle_rule (perhaps (one signs.Braces)) trees mid result
    (same_finds angle_rule type trees mid (angle_find (classes_in trees) h) f) r

pub angle_sticks : (trees left : List TokenTree) → heads rule.pattern_angle (classes_in trees) ≡ true
    → Sticks type trees left
    → Sticks rule.pattern_angle trees left
angle_sticks trees left h f =
    then_sticks angle_rule (perhaps (one signs.Braces)) trees left
    (same_sticks angle_rule type trees left (angle_find (classes_in trees) h) f)

pub ruleset angles = (angle_begins, angle_none, angle_reads, angle_sticks)

-- ---- patterns

plain_first : (c : SignClass) → may_begin rule.plain_pattern c ≡ (rule.is_pattern c || opens c)
plain_first c =
    go (rule.is_pattern c) (may_begin rule.pattern_angle c) (opens c) (may_begin rule.pattern_rest c) (angle_first c)
  where
    go : (x y z u : Bool) → y ≡ z → ((x && true || false && u) || y) ≡ (x || z)
    go true y z u e = refl
    go false y z u e = e

pub plain_begins : (trees rest : List TokenTree) (class : SignClass) (b : Bool) → BeginsWith trees class rest
    → b ≡ (rule.is_pattern class || opens class)
    → b ≡ heads rule.plain_pattern (classes_in trees)
plain_begins trees rest class b at h =
    h ∙ (sym (plain_first class) ∙ sym (heads_sign rule.plain_pattern trees rest class at))

pub plain_none : (trees : List TokenTree) → trees ≡ [] → false ≡ heads rule.plain_pattern (classes_in trees)
plain_none trees e = sym (heads_none rule.plain_pattern trees e)

then_stack : (a b : G) (cs : List SignClass) → scan rules (Then a b ∷ []) cs ≡ scan rules (a ∷ b ∷ []) cs
unfolding find
then_stack a b cs = find_then rules a b cs ∙ sym (scan_append rules (a ∷ []) (b ∷ []) cs)

-- a pattern cannot go on with `<` as one of its signs
angle_apart : (c : SignClass) → opens c ≡ true → rule.continues c ≡ false
angle_apart c h = go (rule.continues c) refl
  where
    apart : (not (opens c && rule.continues c)) ≡ true
    apart = every_holds (λ d. not (opens d && rule.continues d)) refl c

    go : (b : Bool) → rule.continues c ≡ b → b ≡ false
    go false e = refl
    go true e = absurd (both_ways _ (rw (h, e) refl) apart)

front_none : (f : Found SignClass Label) → front [] f ≡ f
front_none (Past e r) = refl
front_none (Stuck l) = refl

-- angle brackets and what follows them, or nothing
abbrev angle_end : G
angle_end = perhaps rule.pattern_angle

dot_continues : (c : SignClass) → is signs.Dot c ≡ true → rule.continues c ≡ true
dot_continues c h = subst (λ d. rule.continues d ≡ true) (sym (same_class signs.Dot c h)) refl

-- the rest of a pattern goes on with one more sign
rest_more : (c : SignClass) (cs : List SignClass) → rule.continues c ≡ true
    → find rules rule.pattern_rest (c ∷ cs) ≡ front (One c ∷ []) (find rules rule.pattern_rest cs)
unfolding find
rest_more c cs e =
    scan_step rules (rule.pattern_rest ∷ []) c cs (Some (One c ∷ [], rule.pattern_signs ∷ angle_end ∷ [])) (rw e refl)
    ∙ ap (front (One c ∷ [])) (sym (then_stack rule.pattern_signs angle_end cs))

-- the rest of a pattern has no more signs
rest_skips : (c : SignClass) (cs : List SignClass) → rule.continues c ≡ false
    → find rules rule.pattern_rest (c ∷ cs) ≡ find rules angle_end (c ∷ cs)
rest_skips c cs e =
    find_then rules rule.pattern_signs angle_end (c ∷ cs)
    ∙ (ap (λ x. and_then x (find rules angle_end)) (find_skips rules rule.pattern_signs (c ∷ cs) e refl)
    ∙ front_none (find rules angle_end (c ∷ cs)))

-- where a pattern without `..` begins, it reads the same as the rest of a pattern
plain_whole : (cs : List SignClass) → heads rule.plain_pattern cs ≡ true
    → find rules rule.plain_pattern cs ≡ find rules rule.pattern_rest cs
unfolding find
plain_whole [] h = absurd (both_ways _ refl h)
plain_whole (c ∷ cs) h = go (rule.is_pattern c) refl
  where
    go : (b : Bool) → rule.is_pattern c ≡ b
        → find rules rule.plain_pattern (c ∷ cs) ≡ find rules rule.pattern_rest (c ∷ cs)
    go true e =
        scan_step rules (rule.plain_pattern ∷ []) c cs (Some (One c ∷ [], rule.pattern_rest ∷ [])) (rw e refl)
        ∙ sym (rest_more c cs (rw e refl))
    go false e =
        let begins : opens c ≡ true = sym (ap (λ b. b || opens c) e) ∙ (sym (plain_first c) ∙ h) in
        let angle_heads : may_begin rule.pattern_angle c ≡ true = angle_first c ∙ begins in
        find_other rules (Then (Sign (λ d. rule.is_pattern d && not false)) rule.pattern_rest) rule.pattern_angle
        (c ∷ cs)
        (rw e refl) refl
        ∙ sym (rest_skips c cs (angle_apart c begins)
        ∙ find_first rules rule.pattern_angle Nothing (c ∷ cs) angle_heads)

pub plain_reads : (trees : List TokenTree) (result : Result (Bor (List TokenTree)) (Bor (List TokenTree)))
    → heads rule.plain_pattern (classes_in trees) ≡ true → ReadsRule rule.pattern_rest trees result
    → ReadsRule rule.plain_pattern trees result
plain_reads trees (Ok rest) h f =
    same_finds rule.plain_pattern rule.pattern_rest trees rest.now (plain_whole (classes_in trees) h) f
plain_reads trees (Err left) h f =
    same_sticks rule.plain_pattern rule.pattern_rest trees left.now (plain_whole (classes_in trees) h) f

pub ruleset plain_patterns = (plain_begins, plain_none, plain_reads, lacks)

-- what begins with `..` begins exactly where a `.` is
dots_heads : (g : G) (cs : List SignClass) → heads (Then rule.two_dots g) cs ≡ heads (one signs.Dot) cs
dots_heads g [] = refl
dots_heads g (c ∷ cs) =
    or_nothing (is signs.Dot c || false && is signs.Dot c) (may_begin g c)
    ∙ or_nothing (is signs.Dot c) (is signs.Dot c)

pub pattern_dotted : (trees : List TokenTree) (b : Bool)
    (result : Result (Bor (List TokenTree)) (Bor (List TokenTree))) → b ≡ heads (one signs.Dot) (classes_in trees)
    → b ≡ true → ReadsRule rule.dotted_pattern trees result
    → ReadsRule rule.pattern trees result
pattern_dotted trees b result e h f =
    first_reads rule.dotted_pattern rule.plain_pattern trees result
    (dots_heads rule.pattern_rest (classes_in trees) ∙ (sym e ∙ h)) f

pub pattern_plain : (trees : List TokenTree) (b : Bool)
    (result : Result (Bor (List TokenTree)) (Bor (List TokenTree))) → b ≡ heads (one signs.Dot) (classes_in trees)
    → b ≡ false → ReadsRule rule.plain_pattern trees result
    → ReadsRule rule.pattern trees result
pattern_plain trees b result e h f =
    other_reads rule.dotted_pattern rule.plain_pattern trees result
    (dots_heads rule.pattern_rest (classes_in trees) ∙ (sym e ∙ h)) refl f

pub ruleset patterns = (pattern_dotted, pattern_plain)

-- no other pattern begins with `.`
dot_apart : (c : SignClass) → (rule.is_pattern c || opens c) ≡ true → is signs.Dot c ≡ false
dot_apart c h = go (is signs.Dot c) refl
  where
    apart : (not ((rule.is_pattern c || opens c) && is signs.Dot c)) ≡ true
    apart = every_holds (λ d. not ((rule.is_pattern d || opens d) && is signs.Dot d)) refl c

    go : (b : Bool) → is signs.Dot c ≡ b → b ≡ false
    go false e = refl
    go true e = absurd (both_ways _ (rw (h, e) refl) apart)

no_dot : (cs : List SignClass) → heads rule.plain_pattern cs ≡ true → heads (one signs.Dot) cs ≡ false
no_dot [] h = refl
no_dot (c ∷ cs) h = dot_apart c (sym (plain_first c) ∙ h)

-- a pattern that does not begin with `..` is a pattern
plain_is_pattern : (trees rest : List TokenTree) → Finds rule.plain_pattern trees rest → Finds rule.pattern trees rest
plain_is_pattern trees rest f =
    let none = no_dot (classes_in trees) (finds_heads rule.plain_pattern trees rest refl f) in
    other_finds rule.dotted_pattern rule.plain_pattern trees rest
    (dots_heads rule.pattern_rest (classes_in trees) ∙ none) refl f

-- a pattern whose first sign does not pass the test is any pattern
but_step : (without : SignClass → Bool) (c : SignClass) → without c ≡ false
    → step rules (rule.pattern_but without ∷ []) c ≡ step rules (rule.pattern ∷ []) c
but_step without c h = rw h refl

but_find : (without : SignClass → Bool) (c : SignClass) (cs : List SignClass) → without c ≡ false
    → find rules (rule.pattern_but without) (c ∷ cs) ≡ find rules rule.pattern (c ∷ cs)
unfolding find
but_find without c cs h =
    scan_step rules (rule.pattern_but without ∷ []) c cs (step rules (rule.pattern ∷ []) c) (but_step without c h)
    ∙ sym (scan_step rules (rule.pattern ∷ []) c cs (step rules (rule.pattern ∷ []) c) refl)

but_same : (without : SignClass → Bool) (trees rest : List TokenTree) (class : SignClass) → BeginsWith trees class rest
    → without class ≡ false
    → find rules (rule.pattern_but without) (classes_in trees) ≡ find rules rule.pattern (classes_in trees)
but_same without trees rest class b h =
    ap (find rules (rule.pattern_but without)) (classes_sign trees rest class b)
    ∙ (but_find without class (classes_in rest) h
    ∙ ap (find rules rule.pattern) (sym (classes_sign trees rest class b)))

plain_step : (without : SignClass → Bool) (c : SignClass) → without c ≡ false
    → step rules (rule.plain_but without ∷ []) c ≡ step rules (rule.plain_pattern ∷ []) c
plain_step without c h = rw h refl

plain_find : (without : SignClass → Bool) (c : SignClass) (cs : List SignClass) → without c ≡ false
    → find rules (rule.plain_but without) (c ∷ cs) ≡ find rules rule.plain_pattern (c ∷ cs)
unfolding find
plain_find without c cs h =
    scan_step rules (rule.plain_but without ∷ []) c cs (step rules (rule.plain_pattern ∷ []) c) (plain_step without c h)
    ∙ sym (scan_step rules (rule.plain_pattern ∷ []) c cs (step rules (rule.plain_pattern ∷ []) c) refl)

plain_same : (without : SignClass → Bool) (trees rest : List TokenTree) (class : SignClass)
    → BeginsWith trees class rest → without class ≡ false
    → find rules (rule.plain_but without) (classes_in trees) ≡ find rules rule.plain_pattern (classes_in trees)
plain_same without trees rest class b h =
    ap (find rules (rule.plain_but without)) (classes_sign trees rest class b)
    ∙ (plain_find without class (classes_in rest) h
    ∙ ap (find rules rule.plain_pattern) (sym (classes_sign trees rest class b)))

-- a pattern that begins with `..` is also the rest of a pattern
dotted_rest : (cs rest : List SignClass) (events : List (Event SignClass Label))
    → find rules rule.dotted_pattern cs ≡ Past events rest
    → find rules rule.pattern_rest cs ≡ Past events rest
unfolding find
dotted_rest [] rest events f = let both : Stuck [] ≡ Past events rest = f in absurd cc
dotted_rest (c ∷ cs) rest events f = go (is signs.Dot c) refl
  where
    -- after the first `.`
    more : (c : SignClass) (cs : List SignClass) → is signs.Dot c ≡ true
        → front (One c ∷ []) (scan rules (one signs.Dot ∷ rule.pattern_rest ∷ []) cs) ≡ Past events rest
        → front (One c ∷ []) (find rules rule.pattern_rest cs) ≡ Past events rest
    more c [] e f = let both : Stuck [] ≡ Past events rest = f in absurd cc
    more c (d ∷ ds) e f = next (is signs.Dot d) refl
      where
        next : (b : Bool) → is signs.Dot d ≡ b
            → front (One c ∷ []) (find rules rule.pattern_rest (d ∷ ds)) ≡ Past events rest
        next true h =
            ap (front (One c ∷ [])) (rest_more d ds (dot_continues d h)
            ∙ sym (scan_step rules (one signs.Dot ∷ rule.pattern_rest ∷ []) d ds
            (Some (One d ∷ [], rule.pattern_rest ∷ [])) (rw h refl))) ∙ f
        next false h =
            let stuck = scan_step rules (one signs.Dot ∷ rule.pattern_rest ∷ []) d ds None (rw h refl) in
            let both : Past events rest ≡ Stuck (d ∷ ds) = sym f ∙ ap (front (One c ∷ [])) stuck in
            absurd cc

    go : (b : Bool) → is signs.Dot c ≡ b → find rules rule.pattern_rest (c ∷ cs) ≡ Past events rest
    go true e =
        let first = scan_step rules (rule.dotted_pattern ∷ []) c cs
        (Some (One c ∷ [], one signs.Dot ∷ rule.pattern_rest ∷ [])) (rw e refl) in
        rest_more c cs (dot_continues c e) ∙ more c cs e (sym first ∙ f)
    go false e =
        let lacks = find_lacks rules rule.dotted_pattern (c ∷ cs)
        (dots_heads rule.pattern_rest (c ∷ cs) ∙ e) refl in
        let both : Past events rest ≡ Stuck (c ∷ cs) = sym f ∙ lacks in
        absurd cc

-- where a pattern is found, it is also the rest of a pattern
pattern_rests : (trees rest : List TokenTree) → Finds rule.pattern trees rest → Finds rule.pattern_rest trees rest
pattern_rests trees rest f = go (heads (one signs.Dot) (classes_in trees)) refl
  where
    go : (b : Bool) → heads (one signs.Dot) (classes_in trees) ≡ b → Finds rule.pattern_rest trees rest
    go true e =
        let first = find_first rules rule.dotted_pattern rule.plain_pattern (classes_in trees)
        (dots_heads rule.pattern_rest (classes_in trees) ∙ e) in
        record {
          events = f.events;
          found = dotted_rest (classes_in trees) (classes_in rest) f.events (sym first ∙ f.found);
          remains = f.remains;
        }
    go false e =
        let other = find_other rules rule.dotted_pattern rule.plain_pattern (classes_in trees)
        (dots_heads rule.pattern_rest (classes_in trees) ∙ e) refl in
        let plain = same_finds rule.plain_pattern rule.pattern trees rest (sym other) f in
        let begins = finds_heads rule.plain_pattern trees rest refl plain in
        same_finds rule.pattern_rest rule.plain_pattern trees rest (sym (plain_whole (classes_in trees) begins)) plain

-- a sign that can begin a pattern, and a pattern after it, are a pattern
pattern_more : (trees mid rest : List TokenTree) (class : SignClass) → BeginsWith trees class mid
    → rule.is_pattern class ≡ true → Finds rule.pattern mid rest
    → Finds rule.pattern trees rest
pattern_more trees mid rest class b h f =
    let tested : (rule.is_pattern class && true) ≡ true = rw h refl in
    plain_is_pattern trees rest
    (first_finds (Then (Sign (λ c. rule.is_pattern c && true)) rule.pattern_rest) rule.pattern_angle trees rest
    (heads_sign (Then (Sign (λ c. rule.is_pattern c && true)) rule.pattern_rest) trees mid class b
    ∙ or_left _ _ tested)
    (then_finds (Sign (λ c. rule.is_pattern c && true)) rule.pattern_rest trees mid rest
    (sign_finds (λ c. rule.is_pattern c && true) trees mid class b tested) (pattern_rests mid rest f)))

-- ---- up to the `:`

-- a result after a first sign is also a result from that sign on
lift : (g h r s : G) (p : SignClass) (trees mid : List TokenTree)
    (result : Result (Shape × Bor (List TokenTree)) (Bor (List TokenTree))) → BeginsWith trees p mid
    → step rules (g ∷ []) p ≡ Some (One p ∷ [], h ∷ []) → step rules (r ∷ []) p ≡ Some (One p ∷ [], s ∷ [])
    → rule.is_pattern p ≡ true → ReadsFront h s mid result
    → ReadsFront g r trees result
lift g h r s p trees mid (Ok (shapes.Pattern, rest)) b e d i f = (
  leads_on g h rule.pattern_parameter trees mid rest.now (leads_sign g h trees mid p b e) f.0,
  pattern_more trees mid rest.now p b i f.1,
)
lift g h r s p trees mid (Ok (shapes.Receiver, rest)) b e d i f = (
  leads_on g h rule.self_type trees mid rest.now (leads_sign g h trees mid p b e) f.0,
  leads_finds r s trees mid rest.now (leads_sign r s trees mid p b d) f.1,
)
lift g h r s p trees mid (Ok (shapes.Reference, rest)) b e d i f = (
  leads_on g h Nothing trees mid rest.now (leads_sign g h trees mid p b e) f.0,
  leads_finds r s trees mid rest.now (leads_sign r s trees mid p b d) f.1,
)
lift g h r s p trees mid (Err left) b e d i f = leads_sticks g h trees mid left.now (leads_sign g h trees mid p b e) f

pub lift_mut : (trees mid : List TokenTree) (class : SignClass)
    (result : Result (Shape × Bor (List TokenTree)) (Bor (List TokenTree))) → BeginsWith trees class mid
    → is (signs.Keyword keywords.Mut) class ≡ true → ReadsFront rule.after_mut (one signs.SelfValue) mid result
    → ReadsFront rule.named_parameter rule.receiver trees result
lift_mut trees mid class result b h f =
    lift rule.named_parameter rule.after_mut rule.receiver (one signs.SelfValue) (signs.Keyword keywords.Mut) trees mid
    result (begins_as trees mid (signs.Keyword keywords.Mut) class b h) refl refl refl f

pub lift_and : (trees mid : List TokenTree) (class : SignClass)
    (result : Result (Shape × Bor (List TokenTree)) (Bor (List TokenTree))) → BeginsWith trees class mid
    → is signs.And class ≡ true → ReadsFront rule.after_and rule.receiver_rest mid result
    → ReadsFront rule.named_parameter rule.receiver trees result
lift_and trees mid class result b h f =
    lift rule.named_parameter rule.after_and rule.receiver rule.receiver_rest signs.And trees mid result
    (begins_as trees mid signs.And class b h) refl refl refl f

pub lift_and_mut : (trees mid : List TokenTree) (class : SignClass)
    (result : Result (Shape × Bor (List TokenTree)) (Bor (List TokenTree))) → BeginsWith trees class mid
    → is (signs.Keyword keywords.Mut) class ≡ true → ReadsFront rule.after_and_mut (one signs.SelfValue) mid result
    → ReadsFront rule.after_and rule.receiver_rest trees result
lift_and_mut trees mid class result b h f =
    lift rule.after_and rule.after_and_mut rule.receiver_rest (one signs.SelfValue) (signs.Keyword keywords.Mut) trees
    mid
    result (begins_as trees mid (signs.Keyword keywords.Mut) class b h) refl refl refl f

-- after `mut` comes `self`
pub mut_self : (trees rest : List TokenTree) (class : SignClass) → BeginsWith trees class rest
    → is signs.SelfValue class ≡ true
    → LeadsTo rule.after_mut trees rule.self_type rest
mut_self trees rest class b h =
    leads_sign rule.after_mut rule.self_type trees rest signs.SelfValue
    (begins_as trees rest signs.SelfValue class b h) refl

pub and_mut_self : (trees rest : List TokenTree) (class : SignClass) → BeginsWith trees class rest
    → is signs.SelfValue class ≡ true
    → LeadsTo rule.after_and_mut trees Nothing rest
and_mut_self trees rest class b h =
    end_leads rule.after_and_mut trees rest
    (step_finds rule.after_and_mut trees rest signs.SelfValue (begins_as trees rest signs.SelfValue class b h) refl)

pub and_self : (trees rest : List TokenTree) (class : SignClass) → BeginsWith trees class rest
    → is signs.SelfValue class ≡ true
    → LeadsTo rule.after_and trees Nothing rest
and_self trees rest class b h =
    end_leads rule.after_and trees rest
    (step_finds rule.after_and trees rest signs.SelfValue (begins_as trees rest signs.SelfValue class b h) refl)

pub and_self_part : (trees rest : List TokenTree) (class : SignClass) → BeginsWith trees class rest
    → is signs.SelfValue class ≡ true
    → Finds rule.receiver_rest trees rest
and_self_part trees rest class b h =
    step_finds rule.receiver_rest trees rest signs.SelfValue (begins_as trees rest signs.SelfValue class b h) refl

pub named_self : (trees rest : List TokenTree) (class : SignClass) → BeginsWith trees class rest
    → is signs.SelfValue class ≡ true
    → LeadsTo rule.named_parameter trees rule.self_type rest
named_self trees rest class b h =
    leads_sign rule.named_parameter rule.self_type trees rest signs.SelfValue
    (begins_as trees rest signs.SelfValue class b h) refl

pub named_self_part : (trees rest : List TokenTree) (class : SignClass) → BeginsWith trees class rest
    → is signs.SelfValue class ≡ true
    → Finds rule.receiver trees rest
named_self_part trees rest class b h =
    step_finds rule.receiver trees rest signs.SelfValue (begins_as trees rest signs.SelfValue class b h) refl

pub self_part : (trees rest : List TokenTree) (class : SignClass) → BeginsWith trees class rest
    → is signs.SelfValue class ≡ true
    → Finds (one signs.SelfValue) trees rest
self_part trees rest class b h = sign_finds (is signs.SelfValue) trees rest class b h

-- after `&` comes a lifetime
pub lifetime_leads : (trees mid rest : List TokenTree) (class : SignClass) → BeginsWith trees class mid
    → is signs.Lifetime class ≡ true → Finds rule.may_mutate mid rest
    → LeadsTo rule.after_and trees Nothing rest
lifetime_leads trees mid rest class b h f =
    let at = begins_as trees mid signs.Lifetime class b h in
    end_leads rule.after_and trees rest
    (leads_finds rule.after_and rule.may_mutate trees mid rest
    (leads_sign rule.after_and rule.may_mutate trees mid signs.Lifetime at refl) f)

pub lifetime_part : (trees mid rest : List TokenTree) (class : SignClass) → BeginsWith trees class mid
    → is signs.Lifetime class ≡ true → Finds rule.may_mutate mid rest
    → Finds rule.receiver_rest trees rest
lifetime_part trees mid rest class b h f =
    let at = begins_as trees mid signs.Lifetime class b h in
    leads_finds rule.receiver_rest rule.may_mutate trees mid rest
    (leads_sign rule.receiver_rest rule.may_mutate trees mid signs.Lifetime at refl) f

pub lifetime_sticks : (trees mid left : List TokenTree) (class : SignClass) → BeginsWith trees class mid
    → is signs.Lifetime class ≡ true → Sticks rule.may_mutate mid left
    → Sticks rule.after_and trees left
lifetime_sticks trees mid left class b h f =
    let at = begins_as trees mid signs.Lifetime class b h in
    leads_sticks rule.after_and rule.may_mutate trees mid left
    (leads_sign rule.after_and rule.may_mutate trees mid signs.Lifetime at refl) f

-- the first sign cannot begin a sequence that begins with another sign
no_then : (x : SignClass) (g : G) (trees rest : List TokenTree) (class : SignClass) → BeginsWith trees class rest
    → is x class ≡ false
    → heads (Then (one x) g) (classes_in trees) ≡ false
no_then x g trees rest class b h =
    heads_sign (Then (one x) g) trees rest class b ∙ (or_nothing (is x class) (may_begin g class) ∙ h)

no_one : (x : SignClass) (trees rest : List TokenTree) (class : SignClass) → BeginsWith trees class rest
    → is x class ≡ false
    → heads (one x) (classes_in trees) ≡ false
no_one x trees rest class b h = heads_sign (one x) trees rest class b ∙ h

-- a pattern, where a receiver could also be
module _ (trees rest : List TokenTree) (class : SignClass) (b : BeginsWith trees class rest)
    (no_self : is signs.SelfValue class ≡ false) where
  pub mut_pattern : (result : Result (Shape × Bor (List TokenTree)) (Bor (List TokenTree)))
      → ReadsPattern rule.pattern trees result
      → ReadsFront rule.after_mut (one signs.SelfValue) trees result
  mut_pattern (Ok (shape, mid)) f =
      let none = no_then signs.SelfValue rule.self_type trees rest class b no_self in
      let found : Finds rule.pattern trees mid.now = f.1 in
      subst
      (λ s. LeadsTo rule.after_mut trees (left_of s) mid.now × Finds (front_of (one signs.SelfValue) s) trees mid.now)
      (sym f.0) (
        other_leads (Then (one signs.SelfValue) rule.self_type) rule.typed_pattern rule.pattern_parameter trees mid.now
            none refl
            (finds_leads rule.pattern rule.pattern_parameter trees mid.now found),
        found,
      )
  mut_pattern (Err left) f =
      other_sticks (Then (one signs.SelfValue) rule.self_type) rule.typed_pattern trees left.now
      (no_then signs.SelfValue rule.self_type trees rest class b no_self) refl
      (then_sticks rule.pattern rule.pattern_parameter trees left.now f)

  pub and_mut_pattern : (result : Result (Shape × Bor (List TokenTree)) (Bor (List TokenTree)))
      → ReadsPattern rule.pattern trees result
      → ReadsFront rule.after_and_mut (one signs.SelfValue) trees result
  and_mut_pattern (Ok (shape, mid)) f =
      let none = no_one signs.SelfValue trees rest class b no_self in
      let found : Finds rule.pattern trees mid.now = f.1 in
      subst
      (λ s. LeadsTo rule.after_and_mut trees (left_of s) mid.now
      × Finds (front_of (one signs.SelfValue) s) trees mid.now)
      (sym f.0) (
        other_leads (one signs.SelfValue) rule.typed_pattern rule.pattern_parameter trees mid.now none refl
            (finds_leads rule.pattern rule.pattern_parameter trees mid.now found),
        found,
      )
  and_mut_pattern (Err left) f =
      other_sticks (one signs.SelfValue) rule.typed_pattern trees left.now
      (no_one signs.SelfValue trees rest class b no_self) refl
      (then_sticks rule.pattern rule.pattern_parameter trees left.now f)

  module _ (no_mut : is (signs.Keyword keywords.Mut) class ≡ false) where
    -- a pattern after `&`
    pub and_pattern : (result : Result (Shape × Bor (List TokenTree)) (Bor (List TokenTree)))
        → is signs.Lifetime class ≡ false → ReadsPattern rule.pattern trees result
        → ReadsFront rule.after_and rule.receiver_rest trees result
    and_pattern (Ok (shape, mid)) no_lifetime f =
        let found : Finds rule.pattern trees mid.now = f.1 in
        let but = same_finds (rule.pattern_but (keyword keywords.Mut)) rule.pattern trees mid.now
        (but_same (keyword keywords.Mut) trees rest class b no_mut) found in
        subst (λ s. LeadsTo rule.after_and trees (left_of s) mid.now
        × Finds (front_of rule.receiver_rest s) trees mid.now)
        (sym f.0) (
          other_leads (Then (one signs.Lifetime) rule.may_mutate) _ rule.pattern_parameter trees mid.now
              (no_then signs.Lifetime rule.may_mutate trees rest class b no_lifetime) refl
              (other_leads (Then (key keywords.Mut) rule.after_and_mut) _ rule.pattern_parameter trees mid.now
              (no_then (signs.Keyword keywords.Mut) rule.after_and_mut trees rest class b no_mut) refl
              (other_leads (one signs.SelfValue) _ rule.pattern_parameter trees mid.now
              (no_one signs.SelfValue trees rest class b no_self) refl
              (finds_leads (rule.pattern_but (keyword keywords.Mut)) rule.pattern_parameter trees mid.now but))),
          found,
        )
    and_pattern (Err left) no_lifetime f =
        let but = same_sticks (rule.pattern_but (keyword keywords.Mut)) rule.pattern trees left.now
        (but_same (keyword keywords.Mut) trees rest class b no_mut) f in
        other_sticks (Then (one signs.Lifetime) rule.may_mutate) _ trees left.now
        (no_then signs.Lifetime rule.may_mutate trees rest class b no_lifetime) refl
        (other_sticks (Then (key keywords.Mut) rule.after_and_mut) _ trees left.now
        (no_then (signs.Keyword keywords.Mut) rule.after_and_mut trees rest class b no_mut) refl
        (other_sticks (one signs.SelfValue) _ trees left.now (no_one signs.SelfValue trees rest class b no_self) refl
        (then_sticks (rule.pattern_but (keyword keywords.Mut)) rule.pattern_parameter trees left.now but)))

    -- a pattern at the start of a parameter, which does not begin with `..`
    pub named_pattern : (result : Result (Shape × Bor (List TokenTree)) (Bor (List TokenTree)))
        → is signs.And class ≡ false → ReadsPattern rule.plain_pattern trees result
        → ReadsFront rule.named_parameter rule.receiver trees result
    named_pattern (Ok (shape, mid)) no_and f =
        let found : Finds rule.plain_pattern trees mid.now = f.1 in
        let but = same_finds (rule.plain_but rule.is_shared) rule.plain_pattern trees mid.now
        (plain_same rule.is_shared trees rest class b (rw (no_mut, no_and) refl)) found in
        subst
        (λ s. LeadsTo rule.named_parameter trees (left_of s) mid.now × Finds (front_of rule.receiver s) trees mid.now)
        (sym f.0) (
          other_leads (Then (one signs.SelfValue) rule.self_type) _ rule.pattern_parameter trees mid.now
              (no_then signs.SelfValue rule.self_type trees rest class b no_self) refl
              (other_leads (Then (key keywords.Mut) rule.after_mut) _ rule.pattern_parameter trees mid.now
              (no_then (signs.Keyword keywords.Mut) rule.after_mut trees rest class b no_mut) refl
              (other_leads (Then (one signs.And) rule.after_and) _ rule.pattern_parameter trees mid.now
              (no_then signs.And rule.after_and trees rest class b no_and) refl
              (finds_leads (rule.plain_but rule.is_shared) rule.pattern_parameter trees mid.now but))),
          plain_is_pattern trees mid.now found,
        )
    named_pattern (Err left) no_and f =
        let but = same_sticks (rule.plain_but rule.is_shared) rule.plain_pattern trees left.now
        (plain_same rule.is_shared trees rest class b (rw (no_mut, no_and) refl)) f in
        other_sticks (Then (one signs.SelfValue) rule.self_type) _ trees left.now
        (no_then signs.SelfValue rule.self_type trees rest class b no_self) refl
        (other_sticks (Then (key keywords.Mut) rule.after_mut) _ trees left.now
        (no_then (signs.Keyword keywords.Mut) rule.after_mut trees rest class b no_mut) refl
        (other_sticks (Then (one signs.And) rule.after_and) _ trees left.now
        (no_then signs.And rule.after_and trees rest class b no_and) refl
        (then_sticks (rule.plain_but rule.is_shared) rule.pattern_parameter trees left.now but)))

pub ruleset fronts = (
  lift_mut,
  lift_and,
  lift_and_mut,
  mut_self,
  and_mut_self,
  and_self,
  and_self_part,
  named_self,
  named_self_part,
  self_part,
  lifetime_leads,
  lifetime_part,
  lifetime_sticks,
  mut_pattern,
  and_mut_pattern,
  and_pattern,
  named_pattern,
  lacks,
  heads_none,
)

-- ---- after the `:`

-- `:` and a type
with_type_finds : (trees from_type rest : List TokenTree) → BeginsWith trees signs.Colon from_type
    → Finds type from_type rest
    → Finds rule.with_type trees rest
with_type_finds trees from_type rest b f =
    mark_finds Rest _ trees rest
    (then_finds (one signs.Colon) _ trees from_type rest
    (sign_finds (is signs.Colon) trees from_type signs.Colon b refl) (mark_finds OfType type from_type rest f))

with_type_sticks : (trees from_type left : List TokenTree) → BeginsWith trees signs.Colon from_type
    → Sticks type from_type left
    → Sticks rule.with_type trees left
with_type_sticks trees from_type left b f =
    mark_sticks Rest _ trees left
    (then_fails (one signs.Colon) _ trees from_type left
    (sign_finds (is signs.Colon) trees from_type signs.Colon b refl) (mark_sticks OfType type from_type left f))

with_type_heads : (trees from_type : List TokenTree) → BeginsWith trees signs.Colon from_type
    → heads rule.with_type (classes_in trees) ≡ true
with_type_heads trees from_type b = heads_sign rule.with_type trees from_type signs.Colon b

pub self_typed : (trees from_type rest : List TokenTree) (class : SignClass) → BeginsWith trees class from_type
    → is signs.Colon class ≡ true → Finds type from_type rest
    → Finds rule.self_type trees rest
self_typed trees from_type rest class b h f =
    let at = begins_as trees from_type signs.Colon class b h in
    first_finds rule.with_type Nothing trees rest (with_type_heads trees from_type at)
    (with_type_finds trees from_type rest at f)

pub self_typed_sticks : (trees from_type left : List TokenTree) (class : SignClass) → BeginsWith trees class from_type
    → is signs.Colon class ≡ true → Sticks type from_type left
    → Sticks rule.self_type trees left
self_typed_sticks trees from_type left class b h f =
    let at = begins_as trees from_type signs.Colon class b h in
    first_sticks rule.with_type Nothing trees left (with_type_heads trees from_type at)
    (with_type_sticks trees from_type left at f)

pub self_typed_has : (trees from_type ty rest : List TokenTree) (class : SignClass) → BeginsWith trees class from_type
    → is signs.Colon class ≡ true → Finds type from_type rest → from_type ≡ ty ++ rest
    → (from : List TokenTree) × BeginsWith trees signs.Colon from × Reads (ByRule type) from ty rest
self_typed_has trees from_type ty rest class b h f whole = (
  from_type,
  begins_as trees from_type signs.Colon class b h,
  found_reads type starts_type from_type ty rest f whole,
)

colon_first : (c : SignClass) → may_begin rule.with_type c ≡ is signs.Colon c
colon_first c = or_nothing (is signs.Colon c) (may_begin (Then (Mark OfType) type) c)

pub self_alone : (trees rest : List TokenTree) (class : SignClass) → BeginsWith trees class rest
    → is signs.Colon class ≡ false
    → Finds rule.self_type trees trees
self_alone trees rest class b h =
    perhaps_stays rule.with_type trees (heads_sign rule.with_type trees rest class b ∙ (colon_first class ∙ h))

pub self_last : (trees : List TokenTree) → trees ≡ [] → Finds rule.self_type trees trees
self_last trees e = perhaps_stays rule.with_type trees (heads_none rule.with_type trees e)

pub ruleset self_types = (self_typed, self_typed_sticks, self_typed_has, self_alone, self_last)

pub end_dots : (trees rest : List TokenTree) (b : Bool) → b ≡ heads (one signs.Dot) (classes_in trees) → b ≡ true
    → Finds rule.dots trees rest
    → Finds rule.typed_end trees rest
end_dots trees rest b e h f =
    first_finds rule.dots type trees rest (dots_heads (one signs.Dot) (classes_in trees) ∙ (sym e ∙ h)) f

pub end_dots_sticks : (trees left : List TokenTree) (b : Bool) → b ≡ heads (one signs.Dot) (classes_in trees)
    → b ≡ true → Sticks rule.dots trees left
    → Sticks rule.typed_end trees left
end_dots_sticks trees left b e h f =
    first_sticks rule.dots type trees left (dots_heads (one signs.Dot) (classes_in trees) ∙ (sym e ∙ h)) f

pub end_type : (trees rest : List TokenTree) (b : Bool) → b ≡ heads (one signs.Dot) (classes_in trees) → b ≡ false
    → Finds type trees rest
    → Finds rule.typed_end trees rest
end_type trees rest b e h f =
    other_finds rule.dots type trees rest (dots_heads (one signs.Dot) (classes_in trees) ∙ (sym e ∙ h)) refl f

pub end_type_sticks : (trees left : List TokenTree) (b : Bool) → b ≡ heads (one signs.Dot) (classes_in trees)
    → b ≡ false → Sticks type trees left
    → Sticks rule.typed_end trees left
end_type_sticks trees left b e h f =
    other_sticks rule.dots type trees left (dots_heads (one signs.Dot) (classes_in trees) ∙ (sym e ∙ h)) refl f

pub type_read : (trees ty rest : List TokenTree) → Finds type trees rest → trees ≡ ty ++ rest
    → Reads (ByRule type) trees ty rest
type_read trees ty rest f whole = found_reads type starts_type trees ty rest f whole

pub dots_read : (trees rest : List TokenTree) → Finds rule.dots trees rest
    → (ended : List TokenTree) × Reads (ByRule rule.dots) trees ended rest
dots_read trees rest f = (
  trees_of f.remains.front,
  found_reads rule.dots starts_dots trees (trees_of f.remains.front) rest f f.remains.whole,
)

pub ruleset typed_ends = (end_dots, end_dots_sticks, end_type, end_type_sticks, type_read, dots_read)

-- the result from the `:` on
pub typed_reads : (trees from_end : List TokenTree) (class : SignClass)
    (result : Result (ParameterKind × Bor (List TokenTree)) (Bor (List TokenTree))) → BeginsWith trees class from_end
    → is signs.Colon class ≡ true → ReadsTyped from_end result
    → ReadsEnd rule.pattern_parameter shapes.Pattern trees result
typed_reads trees from_end class (Ok (kind, rest)) b h f =
    let at = begins_as trees from_end signs.Colon class b h in (
      mark_finds Rest _ trees rest.now
          (then_finds (one signs.Colon) _ trees from_end rest.now
          (sign_finds (is signs.Colon) trees from_end signs.Colon at refl)
          (mark_finds OfType rule.typed_end from_end rest.now f.0)),
      (from_end, at, f.1),
    )
typed_reads trees from_end class (Err left) b h f =
    let at = begins_as trees from_end signs.Colon class b h in
    mark_sticks Rest _ trees left.now
    (then_fails (one signs.Colon) _ trees from_end left.now
    (sign_finds (is signs.Colon) trees from_end signs.Colon at refl)
    (mark_sticks OfType rule.typed_end from_end left.now f))

typed_lacks : (trees : List TokenTree) → heads rule.pattern_parameter (classes_in trees) ≡ false
    → Sticks rule.pattern_parameter trees trees
typed_lacks trees h = lacks rule.pattern_parameter trees h refl

pub typed_other : (trees rest : List TokenTree) (class : SignClass) → BeginsWith trees class rest
    → is signs.Colon class ≡ false
    → Sticks rule.pattern_parameter trees trees
typed_other trees rest class b h =
    typed_lacks trees
    (heads_sign rule.pattern_parameter trees rest class b
    ∙ (or_nothing (is signs.Colon class) (may_begin (Then (Mark OfType) rule.typed_end) class) ∙ h))

pub typed_none : (trees : List TokenTree) → trees ≡ [] → Sticks rule.pattern_parameter trees trees
typed_none trees e = typed_lacks trees (heads_none rule.pattern_parameter trees e)

pub ruleset typeds = (typed_reads, typed_other, typed_none)

pub ends_here : (trees : List TokenTree) → Finds Nothing trees trees
ends_here = nothing_finds

pub ruleset ends = (ends_here)

-- ---- parameters without attributes

has_type : (name end : G) (start : IsStart rules follows (name ∷ []))
    (trees pattern mid from_end ended rest : List TokenTree) → Finds name trees mid → trees ≡ pattern ++ mid
    → BeginsWith mid signs.Colon from_end → Reads (ByRule end) from_end ended rest
    → HasType name end trees pattern ended rest
has_type name end start trees pattern mid from_end ended rest f whole b reads = record {
  from_colon = mid;
  from_end = from_end;
  name_read = found_reads name start trees pattern mid f whole;
  colon = b;
  end_read = reads;
}

pattern_kind : (kind : ParameterKind) (trees pattern mid rest : List TokenTree) → Finds rule.pattern trees mid
    → trees ≡ pattern ++ mid → HasPatternType kind mid rest
    → HasKind kind trees pattern rest
pattern_kind kinds.Receiver trees pattern mid rest f whole h = absurd h.2
pattern_kind (kinds.TypedReceiver ty) trees pattern mid rest f whole h = absurd h.2
pattern_kind (kinds.Typed ty) trees pattern mid rest f whole h =
    has_type rule.pattern type starts_pattern trees pattern mid h.0 ty.now rest f whole h.1 h.2
pattern_kind kinds.Variadic trees pattern mid rest f whole h =
    inr (h.2.0, has_type rule.pattern rule.dots starts_pattern trees pattern mid h.0 h.2.0 rest f whole h.1 h.2.1)

self_kind : (kind : ParameterKind) (trees pattern mid rest : List TokenTree) → Finds rule.receiver trees mid
    → trees ≡ pattern ++ mid → HasSelfType kind mid rest
    → HasKind kind trees pattern rest
self_kind kinds.Receiver trees pattern mid rest f whole h =
    subst (λ r. Reads (ByRule rule.receiver) trees pattern r) h
    (found_reads rule.receiver starts_receiver trees pattern mid f whole)
self_kind (kinds.TypedReceiver ty) trees pattern mid rest f whole h =
    has_type rule.receiver type starts_receiver trees pattern mid h.0 ty.now rest f whole h.1 h.2
self_kind (kinds.Typed ty) trees pattern mid rest f whole h = absurd h
self_kind kinds.Variadic trees pattern mid rest f whole h = absurd h

pub named_kind : (shape : Shape) (kind : ParameterKind) (trees pattern mid rest : List TokenTree)
    → Finds (front_of rule.receiver shape) trees mid → trees ≡ pattern ++ mid → HasEnd shape kind mid rest
    → HasKind kind trees pattern rest
named_kind shapes.Pattern kind trees pattern mid rest f whole h = pattern_kind kind trees pattern mid rest f whole h
named_kind shapes.Receiver kind trees pattern mid rest f whole h = self_kind kind trees pattern mid rest f whole h
named_kind shapes.Reference kind trees pattern mid rest f whole h = self_kind kind trees pattern mid rest f whole h

pub named_finds : (shape : Shape) (trees mid rest : List TokenTree)
    → LeadsTo rule.named_parameter trees (left_of shape) mid → Finds (left_of shape) mid rest
    → Finds rule.named_parameter trees rest
named_finds shape trees mid rest l f = leads_finds rule.named_parameter (left_of shape) trees mid rest l f

pub named_sticks : (shape : Shape) (trees mid left : List TokenTree)
    → LeadsTo rule.named_parameter trees (left_of shape) mid → Sticks (left_of shape) mid left
    → Sticks rule.named_parameter trees left
named_sticks shape trees mid left l f = leads_sticks rule.named_parameter (left_of shape) trees mid left l f

pub ruleset named = (named_kind, named_finds, named_sticks)

-- ---- parameters that begin with `..`

-- where no third `.` comes, the rest of a pattern after `..` reads the same as any rest of a pattern
after_rest : (cs : List SignClass) → heads (one signs.Dot) cs ≡ false
    → find rules rule.rest_after_dots cs ≡ find rules rule.pattern_rest cs
unfolding find
after_rest [] h = refl
after_rest (c ∷ cs) h = go (rule.continues c) refl
  where
    go : (b : Bool) → rule.continues c ≡ b
        → find rules rule.rest_after_dots (c ∷ cs) ≡ find rules rule.pattern_rest (c ∷ cs)
    go true e =
        scan_step rules (rule.rest_after_dots ∷ []) c cs (Some (One c ∷ [], rule.pattern_rest ∷ [])) (rw (e, h) refl)
        ∙ sym (rest_more c cs e)
    go false e =
        find_other rules (Then (Sign (λ d. rule.continues d && not (is signs.Dot d))) rule.pattern_rest) angle_end
        (c ∷ cs) (rw e refl) refl
        ∙ sym (rest_skips c cs e)

module _ (trees after : List TokenTree) (f : Finds rule.two_dots trees after) where
  pub dots_finds : (rest : List TokenTree) → Finds (one signs.Dot) after rest
      → Finds rule.dotted_parameter trees rest
  dots_finds rest g =
      then_finds rule.two_dots rule.after_dots trees after rest f
      (first_finds (one signs.Dot) _ after rest (finds_heads (one signs.Dot) after rest refl g) g)

  pub dots_kind : (pattern rest : List TokenTree) → pattern ≡ [] → Finds (one signs.Dot) after rest
      → HasKind kinds.Variadic trees pattern rest
  dots_kind pattern rest none g =
      let read = dots_read trees rest (then_finds rule.two_dots (one signs.Dot) trees after rest f g) in
      inl (none, read.0, read.1)

  pub dots_sticks : (left : List TokenTree) (b : Bool) → b ≡ heads (one signs.Dot) (classes_in after) → b ≡ true
      → Sticks (one signs.Dot) after left
      → Sticks rule.dotted_parameter trees left
  dots_sticks left b e h g =
      then_fails rule.two_dots rule.after_dots trees after left f
      (first_sticks (one signs.Dot) _ after left (sym e ∙ h) g)

  pub dotted_remains : (mid : List TokenTree) → Finds rule.pattern_rest after mid → Remains mid trees
  dotted_remains mid g = remains_on trees after mid f.remains g.remains

  pub dotted_kind : (pattern mid rest : List TokenTree) (kind : ParameterKind) → Finds rule.pattern_rest after mid
      → trees ≡ pattern ++ mid → HasPatternType kind mid rest
      → HasKind kind trees pattern rest
  dotted_kind pattern mid rest kind g whole h =
      let dotted = then_finds rule.two_dots rule.pattern_rest trees after mid f g in
      pattern_kind kind trees pattern mid rest
      (first_finds rule.dotted_pattern rule.plain_pattern trees mid
      (finds_heads rule.dotted_pattern trees mid refl dotted) dotted) whole h

  module _ (b : Bool) (e : b ≡ heads (one signs.Dot) (classes_in after)) (h : b ≡ false) where
    pub dotted_finds : (mid rest : List TokenTree) → Finds rule.pattern_rest after mid
        → Finds rule.pattern_parameter mid rest
        → Finds rule.dotted_parameter trees rest
    dotted_finds mid rest g k =
        let more = same_finds rule.rest_after_dots rule.pattern_rest after mid
        (after_rest (classes_in after) (sym e ∙ h)) g in
        then_finds rule.two_dots rule.after_dots trees after rest f
        (other_finds (one signs.Dot) _ after rest (sym e ∙ h) refl
        (then_finds rule.rest_after_dots rule.pattern_parameter after mid rest more k))

    pub dotted_fails : (mid left : List TokenTree) → Finds rule.pattern_rest after mid
        → Sticks rule.pattern_parameter mid left
        → Sticks rule.dotted_parameter trees left
    dotted_fails mid left g k =
        let more = same_finds rule.rest_after_dots rule.pattern_rest after mid
        (after_rest (classes_in after) (sym e ∙ h)) g in
        then_fails rule.two_dots rule.after_dots trees after left f
        (other_sticks (one signs.Dot) _ after left (sym e ∙ h) refl
        (then_fails rule.rest_after_dots rule.pattern_parameter after mid left more k))

    pub dotted_sticks : (left : List TokenTree) → Sticks rule.pattern_rest after left
        → Sticks rule.dotted_parameter trees left
    dotted_sticks left g =
        let stuck = same_sticks rule.rest_after_dots rule.pattern_rest after left
        (after_rest (classes_in after) (sym e ∙ h)) g in
        then_fails rule.two_dots rule.after_dots trees after left f
        (other_sticks (one signs.Dot) _ after left (sym e ∙ h) refl
        (then_sticks rule.rest_after_dots rule.pattern_parameter after left stuck))

pub dotted_begins : (trees left : List TokenTree) → Sticks rule.two_dots trees left
    → Sticks rule.dotted_parameter trees left
dotted_begins trees left f = then_sticks rule.two_dots rule.after_dots trees left f

pub ruleset dotted = (
  dots_finds,
  dots_kind,
  dots_sticks,
  dotted_remains,
  dotted_kind,
  dotted_finds,
  dotted_fails,
  dotted_sticks,
  dotted_begins,
)

-- ---- parameters

-- a parameter that begins with `..`, or one with a receiver or another pattern
abbrev bare_parameter : G
bare_parameter = Either rule.dotted_parameter rule.named_parameter

pub rest_dotted : (trees : List TokenTree) (b : Bool)
    (result : Result (Named × Bor (List TokenTree)) (Bor (List TokenTree)))
    → b ≡ heads (one signs.Dot) (classes_in trees) → b ≡ true → ReadsNamed rule.dotted_parameter trees result
    → ReadsNamed rule.parameter_rest trees result
rest_dotted trees b (Ok found) e h f = (
  mark_finds NamedPart bare_parameter trees found.1.now
      (first_finds rule.dotted_parameter rule.named_parameter trees found.1.now
      (dots_heads rule.after_dots (classes_in trees) ∙ (sym e ∙ h)) f.0),
  f.1,
)
rest_dotted trees b (Err left) e h f =
    mark_sticks NamedPart bare_parameter trees left.now
    (first_sticks rule.dotted_parameter rule.named_parameter trees left.now
    (dots_heads rule.after_dots (classes_in trees) ∙ (sym e ∙ h)) f)

pub rest_named : (trees : List TokenTree) (b : Bool)
    (result : Result (Named × Bor (List TokenTree)) (Bor (List TokenTree)))
    → b ≡ heads (one signs.Dot) (classes_in trees) → b ≡ false → ReadsNamed rule.named_parameter trees result
    → ReadsNamed rule.parameter_rest trees result
rest_named trees b (Ok found) e h f = (
  mark_finds NamedPart bare_parameter trees found.1.now
      (other_finds rule.dotted_parameter rule.named_parameter trees found.1.now
      (dots_heads rule.after_dots (classes_in trees) ∙ (sym e ∙ h)) refl f.0),
  f.1,
)
rest_named trees b (Err left) e h f =
    mark_sticks NamedPart bare_parameter trees left.now
    (other_sticks rule.dotted_parameter rule.named_parameter trees left.now
    (dots_heads rule.after_dots (classes_in trees) ∙ (sym e ∙ h)) refl f)

pub ruleset rests = (rest_dotted, rest_named)

pub whole_finds : (trees after rest : List TokenTree) → Finds attributes trees after
    → Finds rule.parameter_rest after rest
    → Finds rule.function_parameter trees rest
whole_finds trees after rest f h =
    mark_finds ParameterPart (Then attributes rule.parameter_rest) trees rest
    (then_finds attributes rule.parameter_rest trees after rest f h)

pub whole_fails : (trees after left : List TokenTree) → Finds attributes trees after
    → Sticks rule.parameter_rest after left
    → Sticks rule.function_parameter trees left
whole_fails trees after left f h =
    mark_sticks ParameterPart (Then attributes rule.parameter_rest) trees left
    (then_fails attributes rule.parameter_rest trees after left f h)

pub whole_sticks : (trees left : List TokenTree) → Sticks attributes trees left
    → Sticks rule.function_parameter trees left
whole_sticks trees left h =
    mark_sticks ParameterPart (Then attributes rule.parameter_rest) trees left
    (then_sticks attributes rule.parameter_rest trees left h)

pub whole_parts : (trees left given pattern rest : List TokenTree) (kind : ParameterKind) → Finds attributes trees left
    → trees ≡ given ++ left → HasKind kind left pattern rest
    → (from : List TokenTree) × Reads (ByRule attributes) trees given from × HasKind kind from pattern rest
whole_parts trees left given pattern rest kind f whole h =
    (left, found_reads attributes starts_attributes trees given left f whole, h)

pub ruleset whole = (whole_finds, whole_fails, whole_sticks, whole_parts)

-- ---- the contracts

parameter_part : (trees rest : List TokenTree) → Finds rule.function_parameter trees rest
    → (part : List TokenTree) × Reads (ByRule rule.function_parameter) trees part rest
parameter_part trees rest f = (
  trees_of f.remains.front,
  found_reads rule.function_parameter starts_parameter trees (trees_of f.remains.front) rest f f.remains.whole,
)

pub parameter_at : (trees after rest : List TokenTree) (found : Parameter) → Finds rule.function_parameter trees rest
    → Reads (ByRule attributes) trees found.attributes.now after → HasKind found.kind after found.pattern.now rest
    → IsParameterAt trees found rest
parameter_at trees after rest found f given parts =
    let at = parameter_part trees rest f in
    record { part = at.0; reads = at.1; after_attributes = after; attributes = given; parts = parts }

pub parameter_only : (trees rest : List TokenTree) → Finds rule.function_parameter trees rest
    → IsOnlyRest rule.function_parameter trees rest
parameter_only trees rest f part2 rest2 reads =
    let at = parameter_part trees rest f in
    (only_reading rule.function_parameter starts_parameter trees at.0 rest at.1 part2 rest2 reads).1

pub parameter_fewer : (trees rest : List TokenTree) → Finds rule.function_parameter trees rest
    → length rest < length trees
parameter_fewer trees rest f =
    let at = parameter_part trees rest f in
    rule_fewer rule.function_parameter starts_parameter trees at.0 rest refl at.1

pub parameter_fault : (trees left : List TokenTree) (at : ℕ) → Sticks rule.function_parameter trees left
    → at ≡ length trees - length left
    → FaultAt (ByRule rule.function_parameter) trees at
parameter_fault trees left at f counted =
    let within = remains_within trees left f.remains in
    stuck_fault rule.function_parameter starts_parameter trees left at f (omega arith)

pub pattern_read : (trees part rest : List TokenTree) → Finds rule.pattern trees rest → trees ≡ part ++ rest
    → Reads (ByRule rule.pattern) trees part rest
pattern_read trees part rest f whole = found_reads rule.pattern starts_pattern trees part rest f whole

pub pattern_only : (trees part rest : List TokenTree) → Finds rule.pattern trees rest → trees ≡ part ++ rest
    → IsOnly (ByRule rule.pattern) trees part rest
pattern_only trees part rest f whole =
    only_reading rule.pattern starts_pattern trees part rest (pattern_read trees part rest f whole)

pub pattern_fault : (trees left : List TokenTree) (at : ℕ) → Sticks rule.pattern trees left
    → at ≡ length trees - length left
    → FaultAt (ByRule rule.pattern) trees at
pattern_fault trees left at f counted =
    let within = remains_within trees left f.remains in
    stuck_fault rule.pattern starts_pattern trees left at f (omega arith)

pub pattern_span : (trees left : List TokenTree) (at : ℕ) (span : Option Extent) → Sticks rule.pattern trees left
    → at ≡ length trees - length left → span ≡ first_extent left
    → span ≡ extent_at trees at
pattern_span trees left at span f counted first = remains_span trees left at span f.remains counted first

pub ruleset splits = (pattern_read, pattern_only, pattern_fault, pattern_span)
