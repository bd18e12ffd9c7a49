-- The parts of a function, each by itself.
use Rattle.std.proofs.Common.{◌≡◌, refl, sym, ◌∙◌, ap, subst, Bool, true, false, ◌&&◌, ◌||◌, List, [], ◌∷◌}
use Rattle.std.proofs.Common.{◌++◌, inl, inr, arith}
use Rattle.std.proofs.lemmas.Bool.{both_ways}
use Rattle.std.specs.Prelude.{Result}
use Rattle.std.specs.Borrow.{Bor}
use Rattle.grammars.specs.Deterministic.{IsStart}
use Rattle.grammars.specs.First.{heads, may_begin}
use Rattle.grammars.specs.Grammar.{Either, Mark, Nothing, Sign, Then, perhaps}
use Rattle.pm_token.specs.Leaf.{Name}
use Rattle.pm_token.specs.declared.delimiters.Delimiter.{Delimiter}
use Rattle.pm_token.specs.declared.delimiters.Delimiter.TheVariants as delimiters
use Rattle.pm_stream.specs.Forest.{Forest}
use Rattle.pm_stream.specs.declared.stream.Group.{Group as Grouped}
use Rattle.pm_stream.specs.declared.stream.TokenTree.{TokenTree}
use Rattle.pm_stream.specs.declared.stream.TokenTree.TheVariants.{Group, Ident}
use Rattle.declarations.specs.Function.{AreParentheses, HasReturn, IsBlock}
use Rattle.declarations.specs.Function.{IsNameAt}
use Rattle.declarations.specs.Item.{IsNameClass}
use Rattle.declarations.specs.PartList.{list_rule}
use Rattle.declarations.specs.declared.part_list.Element.TheVariants as elements
use Rattle.declarations.specs.Reader.{Finds, ReadsRule, Sticks, classes_in}
use Rattle.declarations.specs.Signs as signs_in
use Rattle.declarations.specs.Signs.{BeginsWith, group_class, is_restriction, name_class, parentheses_class}
use Rattle.item_tables.specs.declared.class.SignClass.{SignClass}
use Rattle.item_tables.specs.declared.class.SignClass.TheVariants as signs
use Rattle.item_tables.specs.declared.class.Keyword.TheVariants as keywords
use Rattle.item_tables.specs.declared.class.Word.TheVariants as words
use Rattle.declarations.specs.rules.Bodies.{block, braces, function_end, semicolon}
use Rattle.item_tables.specs.Classes.{is, is_block, is_round, is_word, opens}
use Rattle.declarations.specs.rules.Fronts.{is_safe}
use Rattle.declarations.specs.rules.Functions as rule
use Rattle.declarations.specs.rules.Names.{Body, Generics, Label, Name as RuleName, Rest, Returns, Where, comma_list}
use Rattle.declarations.specs.rules.Names.{key}
use Rattle.declarations.specs.rules.Names.{G, one, word}
use Rattle.declarations.specs.rules.Parts.{closed_parameters, generics, parameters, predicate, where_clause}
use Rattle.declarations.specs.rules.Rules.{follows, rules}
use Rattle.declarations.specs.rules.Types.{type}
use Rattle.declarations.proofs.ClassLemmas.{same_class}
use Rattle.declarations.proofs.ReaderLemmas.{first_finds, first_reads, first_sticks, heads_none, heads_sign, lacks}
use Rattle.declarations.proofs.ReaderLemmas.{mark_finds, mark_reads, mark_sticks, other_finds, other_reads}
use Rattle.declarations.proofs.ReaderLemmas.{other_sticks}
use Rattle.declarations.proofs.ReaderLemmas.{perhaps_reads, perhaps_stays, then_reads, then_sticks}
use Rattle.declarations.proofs.ReaderLemmas.{sign_ends, sign_finds, sign_sticks}
use Rattle.declarations.proofs.ReaderLemmas.{then_fails, then_finds}
use Rattle.declarations.proofs.RuleFormLemmas.{found_reads}
use Rattle.declarations.proofs.SignLemmas.{signs_group}
use Rattle.declarations.proofs.TreeLemmas.{or_nothing}
use Rattle.declarations.proofs.SortLemmas.{is_group_sign, groups, is_identifier_sign, names, sort_of, unseen}
use Rattle.declarations.proofs.StartLemmas as begin

-- ---- where a reading begins

starts_type : IsStart rules follows (type ∷ [])
starts_type = begin.type_starts

-- ---- generic parameters

abbrev less : G
less = Then (one signs.Less) closed_parameters

abbrev less_joint : G
less_joint = Then (one signs.LessJoint) closed_parameters

abbrev opened_parameters : G
opened_parameters = Either less less_joint

less_first : (c : SignClass) → may_begin less c ≡ is signs.Less c
less_first c = or_nothing (is signs.Less c) (may_begin closed_parameters c)

generics_first : (c : SignClass) → may_begin (Then (Mark Generics) opened_parameters) c ≡ opens c
generics_first c = go (is signs.Less c) (is signs.LessJoint c) (may_begin closed_parameters c)
  where
    go : (x y z : Bool) → ((x || false && z) || (y || false && z)) ≡ (x || (y || false))
    go true y z = refl
    go false true z = refl
    go false false z = refl

or_second : (x y : Bool) → x ≡ false → (x || (y || false)) ≡ true → y ≡ true
or_second true y e h = absurd (both_ways _ e refl)
or_second false true e h = refl
or_second false false e h = h

-- `<`, and then parameters and `>`
open_reads : (trees rest : List TokenTree) (class : SignClass)
    (result : Result (Bor (List TokenTree)) (Bor (List TokenTree))) → BeginsWith trees class rest → opens class ≡ true
    → ReadsRule closed_parameters rest result
    → ReadsRule opened_parameters trees result
open_reads trees rest class result b h f = go (is signs.Less class) refl
  where
    joint : (x : Bool) → is signs.Less class ≡ x → x ≡ false → is signs.LessJoint class ≡ true
    joint false e _ = or_second (is signs.Less class) (is signs.LessJoint class) e h
    joint true e none = absurd (both_ways _ none refl)

    go : (x : Bool) → is signs.Less class ≡ x → ReadsRule opened_parameters trees result
    go true e =
        first_reads less less_joint trees result (heads_sign less trees rest class b ∙ (less_first class ∙ e))
        (then_reads (one signs.Less) closed_parameters trees rest result
        (sign_finds (is signs.Less) trees rest class b e) f)
    go false e =
        other_reads less less_joint trees result (heads_sign less trees rest class b ∙ (less_first class ∙ e)) refl
        (then_reads (one signs.LessJoint) closed_parameters trees rest result
        (sign_finds (is signs.LessJoint) trees rest class b (joint false e refl)) f)

pub brackets_read : (trees rest : List TokenTree) (class : SignClass) (begun : Bool)
    (result : Result (Bor (List TokenTree)) (Bor (List TokenTree))) → BeginsWith trees class rest
    → begun ≡ opens class → begun ≡ true → ReadsRule closed_parameters rest result
    → ReadsRule generics trees result
brackets_read trees rest class begun result b is_begun h f =
    perhaps_reads (Then (Mark Generics) opened_parameters) trees result
    (heads_sign (Then (Mark Generics) opened_parameters) trees rest class b
    ∙ (generics_first class ∙ (sym is_begun ∙ h)))
    (mark_reads Generics opened_parameters trees result
    (open_reads trees rest class result b (sym is_begun ∙ h) f))

pub brackets_stay : (trees rest : List TokenTree) (class : SignClass) (begun : Bool) → BeginsWith trees class rest
    → begun ≡ opens class → begun ≡ false
    → Finds generics trees trees
brackets_stay trees rest class begun b is_begun none =
    perhaps_stays (Then (Mark Generics) opened_parameters) trees
    (heads_sign (Then (Mark Generics) opened_parameters) trees rest class b
    ∙ (generics_first class ∙ (sym is_begun ∙ none)))

pub brackets_end : (trees : List TokenTree) → trees ≡ [] → Finds generics trees trees
brackets_end trees none =
    perhaps_stays (Then (Mark Generics) opened_parameters) trees
    (heads_none (Then (Mark Generics) opened_parameters) trees none)

pub ruleset brackets = (brackets_read, brackets_stay, brackets_end)

-- the parameters, and then `>`
pub closings_read : (trees mid : List TokenTree) (result : Result (Bor (List TokenTree)) (Bor (List TokenTree)))
    → Finds (list_rule elements.Parameter) trees mid → ReadsRule (one signs.Greater) mid result
    → ReadsRule closed_parameters trees result
closings_read trees mid result f r =
    then_reads parameters (Then (Mark Rest) (one signs.Greater)) trees mid result f
    (mark_reads Rest (one signs.Greater) mid result r)

pub closings_stick : (trees left : List TokenTree) → Sticks (list_rule elements.Parameter) trees left
    → Sticks closed_parameters trees left
closings_stick trees left f = then_sticks parameters (Then (Mark Rest) (one signs.Greater)) trees left f

pub ruleset closings = (closings_read, closings_stick)

-- ---- where clauses

abbrev clause : G
clause = Then (key keywords.Where) (comma_list predicate)

abbrev marked_clause : G
marked_clause = Then (Mark Where) clause

clause_first : (c : SignClass) → may_begin marked_clause c ≡ is (signs.Keyword keywords.Where) c
clause_first c = or_nothing (is (signs.Keyword keywords.Where) c) (may_begin (comma_list predicate) c)

pub clause_reads : (trees rest : List TokenTree) (class : SignClass) (begun : Bool)
    (result : Result (Bor (List TokenTree)) (Bor (List TokenTree))) → BeginsWith trees class rest
    → begun ≡ is (signs.Keyword keywords.Where) class → begun ≡ true
    → ReadsRule (list_rule elements.Predicate) rest result
    → ReadsRule where_clause trees result
clause_reads trees rest class begun result b is_begun h f =
    perhaps_reads marked_clause trees result
    (heads_sign marked_clause trees rest class b ∙ (clause_first class ∙ (sym is_begun ∙ h)))
    (mark_reads Where clause trees result
    (then_reads (key keywords.Where) (comma_list predicate) trees rest result
    (sign_finds (is (signs.Keyword keywords.Where)) trees rest class b (sym is_begun ∙ h)) f))

pub clause_stays : (trees rest : List TokenTree) (class : SignClass) (begun : Bool) → BeginsWith trees class rest
    → begun ≡ is (signs.Keyword keywords.Where) class → begun ≡ false
    → Finds where_clause trees trees
clause_stays trees rest class begun b is_begun none =
    perhaps_stays marked_clause trees
    (heads_sign marked_clause trees rest class b ∙ (clause_first class ∙ (sym is_begun ∙ none)))

pub clause_ends : (trees : List TokenTree) → trees ≡ [] → Finds where_clause trees trees
clause_ends trees none = perhaps_stays marked_clause trees (heads_none marked_clause trees none)

pub ruleset clauses = (clause_reads, clause_stays, clause_ends)

-- ---- qualifiers

pub may_find : (passes : SignClass → Bool) (trees rest : List TokenTree) (class : SignClass)
    → BeginsWith trees class rest
    → passes class ≡ true
    → Finds (perhaps (Sign passes)) trees rest
may_find passes trees rest class b h =
    first_finds (Sign passes) Nothing trees rest (heads_sign (Sign passes) trees rest class b ∙ h)
    (sign_finds passes trees rest class b h)

pub may_stay : (passes : SignClass → Bool) (trees rest : List TokenTree) (class : SignClass)
    → BeginsWith trees class rest
    → passes class ≡ false
    → Finds (perhaps (Sign passes)) trees trees
may_stay passes trees rest class b h =
    perhaps_stays (Sign passes) trees (heads_sign (Sign passes) trees rest class b ∙ h)

pub may_end : (passes : SignClass → Bool) (trees : List TokenTree) → trees ≡ []
    → Finds (perhaps (Sign passes)) trees trees
may_end passes trees e = perhaps_stays (Sign passes) trees (heads_none (Sign passes) trees e)

abi_first : (c : SignClass) → may_begin rule.abi c ≡ is (signs.Keyword keywords.Extern) c
abi_first c = or_nothing (is (signs.Keyword keywords.Extern) c) (may_begin (perhaps (one signs.Literal)) c)

pub abi_finds : (trees mid rest : List TokenTree) (class : SignClass) → BeginsWith trees class mid
    → is (signs.Keyword keywords.Extern) class ≡ true → Finds (perhaps (one signs.Literal)) mid rest
    → Finds (perhaps rule.abi) trees rest
abi_finds trees mid rest class b h f =
    first_finds rule.abi Nothing trees rest (heads_sign rule.abi trees mid class b ∙ (abi_first class ∙ h))
    (then_finds (key keywords.Extern) (perhaps (one signs.Literal)) trees mid rest
    (sign_finds (is (signs.Keyword keywords.Extern)) trees mid class b h) f)

pub abi_stays : (trees rest : List TokenTree) (class : SignClass) → BeginsWith trees class rest
    → is (signs.Keyword keywords.Extern) class ≡ false
    → Finds (perhaps rule.abi) trees trees
abi_stays trees rest class b h =
    perhaps_stays rule.abi trees (heads_sign rule.abi trees rest class b ∙ (abi_first class ∙ h))

pub abi_ends : (trees : List TokenTree) → trees ≡ [] → Finds (perhaps rule.abi) trees trees
abi_ends trees e = perhaps_stays rule.abi trees (heads_none rule.abi trees e)

pub ruleset options = (may_find, may_stay, may_end, abi_finds, abi_stays, abi_ends)

pub qualifiers_find : (trees a b c d e rest : List TokenTree) → Finds (perhaps (one (signs.Word words.Default))) trees a
    → Finds (perhaps (key keywords.Const)) a b → Finds (perhaps (key keywords.Async)) b c
    → Finds (perhaps (one (signs.Word words.Gen))) c d → Finds (perhaps (Sign is_safe)) d e
    → Finds (perhaps rule.abi) e rest
    → Finds rule.qualifiers trees rest
qualifiers_find trees a b c d e rest default const async gen safe abi =
    then_finds _ _ trees a rest default
    (then_finds _ _ a b rest const
    (then_finds _ _ b c rest async (then_finds _ _ c d rest gen (then_finds _ _ d e rest safe abi))))

-- ---- trees that are one sign

-- the first sign passes no test that only other trees pass
pub no_sign : (passes : SignClass → Bool) (trees : List TokenTree)
    → ((sign : signs_in.Sign) (after : List signs_in.Sign) → signs_in.signs trees ≡ sign ∷ after
    → passes sign.class ≡ true → ⊥)
    → heads {N = RuleName} {L = Label} (Sign passes) (classes_in trees) ≡ false
unfolding classes_in
no_sign passes trees none = go (signs_in.signs trees) refl
  where
    first : (sign : signs_in.Sign) (after : List signs_in.Sign) (b : Bool) → signs_in.signs trees ≡ sign ∷ after
        → passes sign.class ≡ b
        → b ≡ false
    first sign after false e h = refl
    first sign after true e h = absurd (none sign after e h)

    go : (all : List signs_in.Sign) → signs_in.signs trees ≡ all
        → heads {N = RuleName} {L = Label} (Sign passes) (signs_in.classes_of (signs_in.signs trees)) ≡ false
    go [] e = rw e refl
    go (sign ∷ after) e = rw e (first sign after (passes sign.class) e refl)

pub begins_group : (trees rest : List TokenTree) (g : Grouped) → trees ≡ Group g ∷ rest
    → BeginsWith trees (group_class g.delimiter g.stream) rest
begins_group trees rest g whole = record {
  front = Group g ∷ [];
  whole = whole;
  fewer = rw whole (omega arith);
  read = rw whole (signs_group g rest);
}

signs_name : (n : Name) (rest : List TokenTree) → signs_in.signs (Ident n ∷ rest)
    ≡ record { class = name_class n; trees = Ident n ∷ [] } ∷ signs_in.signs rest
signs_name n [] = refl
signs_name n (tree ∷ rest) = refl

pub begins_name : (trees rest : List TokenTree) (n : Name) → trees ≡ Ident n ∷ rest
    → BeginsWith trees (name_class n) rest
begins_name trees rest n whole = record {
  front = Ident n ∷ [];
  whole = whole;
  fewer = rw whole (omega arith);
  read = rw whole (signs_name n rest);
}

-- ---- names

is_name : (c : SignClass) → is_word c ≡ true → IsNameClass c
is_name (signs.Word w) h = tt
is_name (signs.Keyword k) h = absurd (both_ways _ refl h)
is_name _ h = absurd (both_ways _ refl h)

is_name_word : (c : SignClass) → IsNameClass c → is_word c ≡ true
is_name_word (signs.Word w) h = refl
is_name_word c h = absurd h

word_sort : (c : SignClass) → is_word c ≡ true → sort_of c ≡ names
word_sort (signs.Word w) h = refl
word_sort (signs.Keyword k) h = absurd (both_ways _ refl h)
word_sort _ h = absurd (both_ways _ refl h)

pub name_at : (trees rest : List TokenTree) (n : Name) (class : SignClass) (b : Bool) → trees ≡ Ident n ∷ rest
    → class ≡ name_class n → b ≡ is_word class → b ≡ true
    → IsNameAt trees n rest
name_at trees rest n class b whole named is h =
    record { whole = whole; is_name = is_name (name_class n) (ap is_word (sym named) ∙ (sym is ∙ h)) }

pub no_name : (trees rest : List TokenTree) (n : Name) (class : SignClass) (b : Bool) → trees ≡ Ident n ∷ rest
    → class ≡ name_class n → b ≡ is_word class → b ≡ false
    → Sticks word trees trees
no_name trees rest n class b whole named is h =
    sign_sticks is_word trees rest (name_class n) (begins_name trees rest n whole)
    (ap is_word (sym named) ∙ (sym is ∙ h))

pub no_ident : (trees : List TokenTree) → ((n : Name) (rest : List TokenTree) → trees ≡ Ident n ∷ rest → ⊥)
    → Sticks word trees trees
no_ident trees none =
    lacks word trees
    (no_sign is_word trees
    (λ sign after e h. let at = is_identifier_sign trees sign after e (word_sort sign.class h) in none at.0 at.1.more
    at.1.whole))
    refl

pub name_finds : (trees rest : List TokenTree) (n : Name) → IsNameAt trees n rest → Finds word trees rest
name_finds trees rest n at =
    sign_finds is_word trees rest (name_class n) (begins_name trees rest n at.whole)
    (is_name_word (name_class n) at.is_name)

-- ---- parentheses

round_sort : (c : SignClass) → is_round c ≡ true → sort_of c ≡ groups
round_sort signs.Parentheses h = refl
round_sort signs.Restriction h = refl
round_sort (signs.Word w) h = absurd (both_ways _ refl h)
round_sort (signs.Keyword k) h = absurd (both_ways _ refl h)
round_sort _ h = absurd (both_ways _ refl h)

pub round_class : (f : Forest) → is_round (group_class delimiters.Parenthesis f) ≡ true
round_class f =
    elim (is_restriction f) as (λ b. is_round (parentheses_class b) ≡ true) [ true ↦ refl | false ↦ refl ]

round_delimiter : (d : Delimiter) (f : Forest) → is_round (group_class d f) ≡ true → d ≡ delimiters.Parenthesis
round_delimiter delimiters.Parenthesis f h = refl
round_delimiter delimiters.Bracket f h = absurd (both_ways _ refl h)
round_delimiter delimiters.Brace f h = absurd (both_ways _ refl h)
round_delimiter delimiters.None f h =
    absurd (both_ways _ (unseen (λ c. is_round c ≡ false) f refl refl refl refl refl) h)

pub are_parentheses : (trees rest : List TokenTree) (g : Grouped) → trees ≡ Group g ∷ rest
    → g.delimiter ≡ delimiters.Parenthesis
    → AreParentheses trees g rest
are_parentheses trees rest g whole round = record { whole = whole; round = round }

-- where no parentheses are
pub no_round : (trees : List TokenTree)
    → ((g : Grouped) (rest : List TokenTree) → trees ≡ Group g ∷ rest → g.delimiter ≡ delimiters.Parenthesis → ⊥)
    → heads {N = RuleName} {L = Label} (Sign is_round) (classes_in trees) ≡ false
no_round trees none =
    no_sign is_round trees
    (λ sign after e h.
    let at = is_group_sign trees sign after e (round_sort sign.class h) in
    let class : sign.class ≡ group_class at.0.delimiter at.0.stream = ap (λ s. s.class) at.1.is in
    none at.0 at.1.more at.1.whole (round_delimiter at.0.delimiter at.0.stream (ap is_round (sym class) ∙ h)))

pub no_parentheses : (trees : List TokenTree)
    → ((g : Grouped) (rest : List TokenTree) → trees ≡ Group g ∷ rest → g.delimiter ≡ delimiters.Parenthesis → ⊥)
    → Sticks (Sign is_round) trees trees
no_parentheses trees none = lacks (Sign is_round) trees (no_round trees none) refl

pub parentheses_find : (trees rest : List TokenTree) (g : Grouped) → AreParentheses trees g rest
    → Finds (Sign is_round) trees rest
parentheses_find trees rest g at =
    sign_finds is_round trees rest (group_class g.delimiter g.stream) (begins_group trees rest g at.whole)
    (ap (λ d. is_round (group_class d g.stream)) at.round ∙ round_class g.stream)

pub ruleset parentheses = (are_parentheses, no_parentheses)

-- ---- return types

begins_as : (trees rest : List TokenTree) (x class : SignClass) → BeginsWith trees class rest → is x class ≡ true
    → BeginsWith trees x rest
begins_as trees rest x class b h = subst (λ c. BeginsWith trees c rest) (same_class x class h) b

arrow_first : (c : SignClass) → may_begin rule.with_arrow c ≡ is signs.Arrow c
arrow_first c = or_nothing (is signs.Arrow c) (may_begin (Then (Mark Returns) type) c)

module _ (trees from_type : List TokenTree) (class : SignClass) (b : BeginsWith trees class from_type)
    (h : is signs.Arrow class ≡ true) where
  arrow_heads : heads rule.with_arrow (classes_in trees) ≡ true
  arrow_heads = heads_sign rule.with_arrow trees from_type class b ∙ (arrow_first class ∙ h)

  pub arrow_finds : (rest : List TokenTree) → Finds type from_type rest → Finds rule.return_type_rule trees rest
  arrow_finds rest f =
      first_finds rule.with_arrow Nothing trees rest arrow_heads
      (mark_finds Rest _ trees rest
      (then_finds (one signs.Arrow) _ trees from_type rest (sign_finds (is signs.Arrow) trees from_type class b h)
      (mark_finds Returns type from_type rest f)))

  pub arrow_sticks : (left : List TokenTree) → Sticks type from_type left → Sticks rule.return_type_rule trees left
  arrow_sticks left f =
      first_sticks rule.with_arrow Nothing trees left arrow_heads
      (mark_sticks Rest _ trees left
      (then_fails (one signs.Arrow) _ trees from_type left (sign_finds (is signs.Arrow) trees from_type class b h)
      (mark_sticks Returns type from_type left f)))

  pub arrow_has : (returned rest : List TokenTree) → Finds type from_type rest → from_type ≡ returned ++ rest
      → HasReturn trees returned rest
  arrow_has returned rest f whole =
      inl (record {
        from_type = from_type;
        arrow = begins_as trees from_type signs.Arrow class b h;
        type_read = found_reads type starts_type from_type returned rest f whole;
      })

pub no_arrow : (trees rest : List TokenTree) (class : SignClass) → BeginsWith trees class rest
    → is signs.Arrow class ≡ false
    → Finds rule.return_type_rule trees trees
no_arrow trees rest class b h =
    perhaps_stays rule.with_arrow trees (heads_sign rule.with_arrow trees rest class b ∙ (arrow_first class ∙ h))

pub no_arrow_left : (trees : List TokenTree) → trees ≡ [] → Finds rule.return_type_rule trees trees
no_arrow_left trees e = perhaps_stays rule.with_arrow trees (heads_none rule.with_arrow trees e)

pub no_return : (trees returned : List TokenTree) → returned ≡ [] → HasReturn trees returned trees
no_return trees returned e = inr (e, refl)

pub ruleset returns = (arrow_finds, arrow_sticks, arrow_has, no_arrow, no_arrow_left, no_return)

-- ---- braces

brace_sort : (c : SignClass) → is signs.Braces c ≡ true → sort_of c ≡ groups
brace_sort c h = ap sort_of (same_class signs.Braces c h)

brace_delimiter : (d : Delimiter) (f : Forest) → is signs.Braces (group_class d f) ≡ true → d ≡ delimiters.Brace
brace_delimiter delimiters.Brace f h = refl
brace_delimiter delimiters.Bracket f h = absurd (both_ways _ refl h)
brace_delimiter delimiters.None f h =
    absurd (both_ways _ (unseen (λ c. is signs.Braces c ≡ false) f refl refl refl refl refl) h)
brace_delimiter delimiters.Parenthesis f h = absurd (both_ways _ (round f) h)
  where
    round : (f : Forest) → is signs.Braces (group_class delimiters.Parenthesis f) ≡ false
    round f =
        elim (is_restriction f) as (λ b. is signs.Braces (parentheses_class b) ≡ false)
        [ true ↦ refl | false ↦ refl ]

braces_heads : (cs : List SignClass) → heads braces cs ≡ heads (one signs.Braces) cs
braces_heads [] = refl
braces_heads (c ∷ cs) = refl

-- where no braces are
pub no_braces : (trees : List TokenTree)
    → ((g : Grouped) (rest : List TokenTree) → trees ≡ Group g ∷ rest → g.delimiter ≡ delimiters.Brace → ⊥)
    → heads braces (classes_in trees) ≡ false
no_braces trees none =
    braces_heads (classes_in trees)
    ∙ no_sign (is signs.Braces) trees
    (λ sign after e h.
    let at = is_group_sign trees sign after e (brace_sort sign.class h) in
    let class : sign.class ≡ group_class at.0.delimiter at.0.stream = ap (λ s. s.class) at.1.is in
    none at.0 at.1.more at.1.whole
    (brace_delimiter at.0.delimiter at.0.stream (ap (is signs.Braces) (sym class) ∙ h)))

-- ---- bodies

block_sort : (c : SignClass) → is_block c ≡ true → sort_of c ≡ groups
block_sort signs.Braces h = refl
block_sort signs.Block h = refl
block_sort (signs.Word w) h = absurd (both_ways _ refl h)
block_sort (signs.Keyword k) h = absurd (both_ways _ refl h)
block_sort _ h = absurd (both_ways _ refl h)

-- the sign of a block
abbrev block_sign : G
block_sign = Sign is_block

block_heads : (cs : List SignClass) → heads block cs ≡ heads block_sign cs
block_heads [] = refl
block_heads (c ∷ cs) = refl

pub body_finds : (trees rest : List TokenTree) (g : Grouped) → trees ≡ Group g ∷ rest → IsBlock g
    → Finds function_end trees rest
body_finds trees rest g whole is =
    let b = begins_group trees rest g whole in
    first_finds block semicolon trees rest
    (block_heads (classes_in trees)
    ∙ (heads_sign block_sign trees rest (group_class g.delimiter g.stream) b ∙ is))
    (mark_finds Body block_sign trees rest
    (sign_finds is_block trees rest (group_class g.delimiter g.stream) b is))

-- where no block is
module _ (trees : List TokenTree)
    (none : (g : Grouped) (rest : List TokenTree) → trees ≡ Group g ∷ rest → IsBlock g → ⊥) where
  no_block : heads block (classes_in trees) ≡ false
  no_block =
      block_heads (classes_in trees)
      ∙ no_sign is_block trees
      (λ sign after e h.
      let at = is_group_sign trees sign after e (block_sort sign.class h) in
      let class : sign.class ≡ group_class at.0.delimiter at.0.stream = ap (λ s. s.class) at.1.is in
      none at.0 at.1.more at.1.whole (ap is_block (sym class) ∙ h))

  pub semicolon_finds : (rest : List TokenTree) (class : SignClass) → BeginsWith trees class rest
      → is signs.Semicolon class ≡ true
      → Finds function_end trees rest
  semicolon_finds rest class b h =
      other_finds block semicolon trees rest no_block refl
      (mark_finds Rest (one signs.Semicolon) trees rest (sign_finds (is signs.Semicolon) trees rest class b h))

  pub body_sticks : (rest : List TokenTree) (class : SignClass) → BeginsWith trees class rest
      → is signs.Semicolon class ≡ false
      → Sticks function_end trees trees
  body_sticks rest class b h =
      other_sticks block semicolon trees trees no_block refl
      (mark_sticks Rest (one signs.Semicolon) trees trees (sign_sticks (is signs.Semicolon) trees rest class b h))

  pub body_ends : trees ≡ [] → Sticks function_end trees trees
  body_ends e =
      other_sticks block semicolon trees trees no_block refl
      (mark_sticks Rest (one signs.Semicolon) trees trees (sign_ends (is signs.Semicolon) trees e))

pub semicolon_has : (trees rest : List TokenTree) (class : SignClass) → BeginsWith trees class rest
    → is signs.Semicolon class ≡ true
    → BeginsWith trees signs.Semicolon rest
semicolon_has trees rest class b h = begins_as trees rest signs.Semicolon class b h
