-- The parts of a struct, an enum or a union.
use Rattle.std.proofs.Common.{◌≡◌, refl, sym, ◌∙◌, ap, subst, ℕ, ◌-◌, Bool, true, false, List, [], ◌∷◌}
use Rattle.std.proofs.Common.{◌++◌, Option, Some, None, append-nil, length, arith}
use Rattle.std.proofs.lemmas.Bool.{both_ways}
use Rattle.std.proofs.lemmas.List.{append_cancel_right}
use Rattle.std.specs.Prelude.{MatchResult, Result, Ok, Err}
use Rattle.std.specs.Borrow.{Bor}
use Rattle.grammars.specs.Deterministic.{IsStart}
use Rattle.grammars.specs.First.{heads, may_begin}
use Rattle.grammars.specs.Grammar.{Sign, Then}
use Rattle.pm_span.specs.Extent.{Extent}
use Rattle.pm_token.specs.Leaf.{Name}
use Rattle.pm_token.specs.declared.delimiters.Delimiter.TheVariants as delimiters
use Rattle.pm_stream.specs.declared.stream.Group.{Group as Grouped}
use Rattle.pm_stream.specs.declared.stream.TokenTree.{TokenTree}
use Rattle.pm_stream.specs.declared.stream.TokenTree.TheVariants.{Group, Ident}
use Rattle.declarations.specs.Expected.{Expects}
use Rattle.declarations.specs.Explore.{ExpectsWhole}
use Rattle.declarations.specs.Fault.{extent_at, first_extent}
use Rattle.declarations.specs.Field.{ReadsFront}
use Rattle.declarations.specs.Forms.{AreAttributes, AreGenerics, IsItem, IsVisibility, IsWhere}
use Rattle.declarations.specs.Function.{IsNameAt}
use Rattle.declarations.specs.Impl.{HasBraces}
use Rattle.declarations.specs.Item as spec
use Rattle.declarations.specs.Item.{HasEnding, IsTypeItem, after_clause, with_tuple}
use Rattle.declarations.specs.ItemParts.{HasBodyAt, HasClauseEnd, HasDeclared, HasEnd, HasNamed, IsKeywordAt}
use Rattle.declarations.specs.ItemParts.{IsSemicolonAt, class_of, clause_end, declared_by, end_of, from_name}
use Rattle.declarations.specs.ItemParts.{item_rest, plain_end, tuple_end}
use Rattle.declarations.specs.Parameter.{LeadsTo}
use Rattle.declarations.specs.Reader.{Finds, Sticks, classes_in}
use Rattle.declarations.specs.Reading.{FaultAt, Reads}
use Rattle.declarations.specs.Signs.{BeginsWith, classes_of, group_class, name_class, signs}
use Rattle.declarations.specs.Whole.{IsWhole}
use Rattle.item_tables.specs.Classes.{is, is_round}
use Rattle.item_tables.specs.declared.class.SignClass.{SignClass}
use Rattle.item_tables.specs.declared.class.SignClass.TheVariants as classes
use Rattle.item_tables.specs.declared.class.Keyword.TheVariants as keywords
use Rattle.item_tables.specs.declared.class.Word.TheVariants as words
use Rattle.declarations.specs.declared.expected.Expected.{Expected}
use Rattle.declarations.specs.declared.item.Body.{Body}
use Rattle.declarations.specs.declared.item.Body.TheVariants as bodies
use Rattle.declarations.specs.declared.item.Declared.{Declared}
use Rattle.declarations.specs.declared.item.Declared.TheVariants as declare
use Rattle.declarations.specs.declared.item.End.{End as Ended}
use Rattle.declarations.specs.declared.item.Fields.{Fields}
use Rattle.declarations.specs.declared.item.Fields.TheVariants as fields
use Rattle.declarations.specs.declared.item.Named.{Named}
use Rattle.declarations.specs.declared.item.TypeItem.{TypeItem}
use Rattle.declarations.specs.rules.Bodies.{body_end, braces, name, semicolon, struct_rest}
use Rattle.declarations.specs.rules.Items.{type_item, type_keyword}
use Rattle.declarations.specs.rules.Names.{Body as BodyPart, Fields as FieldsPart, Front, G, Named as NamedPart, Rest}
use Rattle.declarations.specs.rules.Names.{one, word}
use Rattle.declarations.specs.rules.Parts.{attributes, generics, where_clause}
use Rattle.declarations.specs.rules.Pieces.{ByRule}
use Rattle.declarations.specs.rules.Rules.{follows, rules}
use Rattle.declarations.proofs.FieldLemmas.{begins_as, front_fails, front_finds, front_sticks, mark_first}
use Rattle.declarations.proofs.FunctionPartLemmas.{are_parentheses, begins_group, begins_name, name_finds, no_braces}
use Rattle.declarations.proofs.FunctionPartLemmas.{no_round, no_sign, parentheses_find}
use Rattle.declarations.proofs.ParameterLemmas.{finds_heads, leads_finds, leads_sign, leads_sticks}
use Rattle.declarations.proofs.PartReaderLemmas as parts_read
use Rattle.declarations.proofs.ReaderLemmas.{first_finds, first_sticks, heads_sign, lacks, mark_finds, mark_sticks}
use Rattle.declarations.proofs.ReaderLemmas.{other_finds, other_sticks, remains_span, sign_ends}
use Rattle.declarations.proofs.ReaderLemmas.{sign_finds, sign_sticks, then_fails, then_finds, then_sticks}
use Rattle.declarations.proofs.RuleFormLemmas.{found_reads}
use Rattle.declarations.proofs.SortLemmas.{is_identifier_sign, names, sort_of}
use Rattle.declarations.proofs.TreeLemmas.{or_nothing}
use Rattle.declarations.proofs.StartLemmas as begin
use Rattle.declarations.proofs.RuleWholeLemmas.{whole_read}
use Rattle.declarations.proofs.RuleFaultLemmas.{rule_left, rule_stuck}
use Rattle.declarations.proofs.RuleExpectsLemmas as rule_expects

starts_where : IsStart rules follows (where_clause ∷ [])
starts_where = begin.where_clause_starts

starts_generics : IsStart rules follows (generics ∷ [])
starts_generics = begin.generics_starts

-- ---- `;`

pub semicolon_finds : (trees rest : List TokenTree) (class : SignClass) → BeginsWith trees class rest
    → is classes.Semicolon class ≡ true
    → Finds semicolon trees rest
semicolon_finds trees rest class b h =
    mark_finds Rest (one classes.Semicolon) trees rest (sign_finds (is classes.Semicolon) trees rest class b h)

pub semicolon_has : (trees part rest : List TokenTree) (class : SignClass) → BeginsWith trees class rest
    → is classes.Semicolon class ≡ true → trees ≡ part ++ rest
    → IsSemicolonAt trees part rest
semicolon_has trees part rest class b h whole =
    record { begins = begins_as trees rest classes.Semicolon class b h; whole = whole }

pub semicolon_sticks : (trees rest : List TokenTree) (class : SignClass) → BeginsWith trees class rest
    → is classes.Semicolon class ≡ false
    → Sticks semicolon trees trees
semicolon_sticks trees rest class b h =
    mark_sticks Rest (one classes.Semicolon) trees trees (sign_sticks (is classes.Semicolon) trees rest class b h)

pub semicolon_none : (trees : List TokenTree) → trees ≡ [] → Sticks semicolon trees trees
semicolon_none trees e =
    mark_sticks Rest (one classes.Semicolon) trees trees (sign_ends (is classes.Semicolon) trees e)

-- the `;` by itself is one sign
semicolon_alone : (trees part rest : List TokenTree) → IsSemicolonAt trees part rest
    → classes_of (signs part) ≡ classes.Semicolon ∷ []
semicolon_alone trees part rest at =
    let mark = mark_first trees rest classes.Semicolon at.begins refl in
    let one : part ≡ mark.0 ∷ [] = append_cancel_right part (mark.0 ∷ []) rest (sym at.whole ∙ mark.1) in
    ap (λ p. classes_of (signs p)) one ∙ ap (λ c. c ∷ []) mark.2

-- ---- braces or `;`

pub braces_find : (trees rest : List TokenTree) (g : Grouped) → trees ≡ Group g ∷ rest → g.delimiter ≡ delimiters.Brace
    → Finds body_end trees rest
braces_find trees rest g whole brace =
    let class : group_class g.delimiter g.stream ≡ classes.Braces = ap (λ d. group_class d g.stream) brace in
    let b : BeginsWith trees classes.Braces rest =
    subst (λ c. BeginsWith trees c rest) class (begins_group trees rest g whole) in
    first_finds braces semicolon trees rest (heads_sign braces trees rest classes.Braces b)
    (mark_finds BodyPart (one classes.Braces) trees rest
    (sign_finds (is classes.Braces) trees rest classes.Braces b refl))

pub braces_have : (trees none rest : List TokenTree) (g : Bor Grouped) → trees ≡ Group g.now ∷ rest
    → g.now.delimiter ≡ delimiters.Brace → none ≡ []
    → HasBodyAt trees (fields.Named g) none rest
braces_have trees none rest g whole brace e = (whole, brace, e)

-- where no braces are
module _ (trees : List TokenTree)
    (none : (g : Grouped) (rest : List TokenTree) → trees ≡ Group g ∷ rest → g.delimiter ≡ delimiters.Brace → ⊥) where
  pub unit_finds : (rest : List TokenTree) → Finds semicolon trees rest → Finds body_end trees rest
  unit_finds rest f = other_finds braces semicolon trees rest (no_braces trees none) refl f

  pub unit_sticks : (left : List TokenTree) → Sticks semicolon trees left → Sticks body_end trees left
  unit_sticks left s = other_sticks braces semicolon trees left (no_braces trees none) refl s

pub ruleset bodies_of = (braces_find, braces_have, unit_finds, unit_sticks)

-- ---- a where clause, and `;` or a body

pub clause_finds : (trees mid rest : List TokenTree) → Finds where_clause trees mid → Finds semicolon mid rest
    → Finds clause_end trees rest
clause_finds trees mid rest f g = then_finds where_clause semicolon trees mid rest f g

pub clause_has : (trees mid clause part rest : List TokenTree) → Finds where_clause trees mid → trees ≡ clause ++ mid
    → IsSemicolonAt mid part rest
    → HasClauseEnd trees clause part rest
clause_has trees mid clause part rest f whole at = record {
  from_semicolon = mid;
  clause_read = found_reads where_clause starts_where trees clause mid f whole;
  end = at;
}

pub clause_fails : (trees mid left : List TokenTree) → Finds where_clause trees mid → Sticks semicolon mid left
    → Sticks clause_end trees left
clause_fails trees mid left f s = then_fails where_clause semicolon trees mid left f s

pub clause_sticks : (trees left : List TokenTree) → Sticks where_clause trees left → Sticks clause_end trees left
clause_sticks trees left s = then_sticks where_clause semicolon trees left s

pub ruleset clause_ends = (clause_finds, clause_has, clause_fails, clause_sticks)

pub plain_finds : (trees mid rest : List TokenTree) → Finds where_clause trees mid → Finds body_end mid rest
    → Finds plain_end trees rest
plain_finds trees mid rest f g = then_finds where_clause body_end trees mid rest f g

abbrev struct_class : SignClass
struct_class = classes.Keyword keywords.Struct

pub plain_has : (trees mid clause part rest : List TokenTree) (found : Fields) → Finds where_clause trees mid
    → trees ≡ clause ++ mid → HasBodyAt mid found part rest
    → HasEnd struct_class trees (bodies.Struct found) clause part rest
plain_has trees mid clause part rest (fields.Named g) f whole has = record {
  from_clause = trees;
  from_body = mid;
  fields = refl;
  clause_read = found_reads where_clause starts_where trees clause mid f whole;
  last = has.0 ∙ ap (λ p. Group g.now ∷ (p ++ rest)) (sym has.2);
  shape = (has.1, has.2);
}
plain_has trees mid clause part rest (fields.Tuple g) f whole has = absurd has
plain_has trees mid clause part rest fields.Unit f whole has = record {
  from_clause = trees;
  from_body = mid;
  fields = refl;
  clause_read = found_reads where_clause starts_where trees clause mid f whole;
  last = has.whole;
  shape = semicolon_alone mid part rest has;
}

pub plain_fails : (trees mid left : List TokenTree) → Finds where_clause trees mid → Sticks body_end mid left
    → Sticks plain_end trees left
plain_fails trees mid left f s = then_fails where_clause body_end trees mid left f s

pub plain_sticks : (trees left : List TokenTree) → Sticks where_clause trees left → Sticks plain_end trees left
plain_sticks trees left s = then_sticks where_clause body_end trees left s

pub ruleset plain_ends = (plain_finds, plain_has, plain_fails, plain_sticks)

-- ---- the end of a struct

abbrev round_sign : G
round_sign = Sign is_round

tuple_heads : (cs : List SignClass) → heads tuple_end cs ≡ heads round_sign cs
tuple_heads [] = refl
tuple_heads (c ∷ cs) = or_nothing (is_round c) (may_begin clause_end c)

module _ (trees mid : List TokenTree) (g : Grouped) (whole : trees ≡ Group g ∷ mid)
    (round : g.delimiter ≡ delimiters.Parenthesis) where
  round_found : Finds (Sign is_round) trees mid
  round_found = parentheses_find trees mid g (are_parentheses trees mid g whole round)

  round_heads : heads tuple_end (classes_in trees) ≡ true
  round_heads = tuple_heads (classes_in trees) ∙ finds_heads round_sign trees mid refl round_found

  pub tuple_finds : (rest : List TokenTree) → Finds clause_end mid rest → Finds struct_rest trees rest
  tuple_finds rest f =
      first_finds tuple_end plain_end trees rest round_heads
      (mark_finds FieldsPart (Then (Sign is_round) clause_end) trees rest
      (then_finds (Sign is_round) clause_end trees mid rest round_found f))

  pub tuple_fails : (left : List TokenTree) → Sticks clause_end mid left → Sticks struct_rest trees left
  tuple_fails left s =
      first_sticks tuple_end plain_end trees left round_heads
      (mark_sticks FieldsPart (Then (Sign is_round) clause_end) trees left
      (then_fails (Sign is_round) clause_end trees mid left round_found s))

pub tuple_has : (trees mid clause part rest : List TokenTree) (g : Bor Grouped) → trees ≡ Group g.now ∷ mid
    → g.now.delimiter ≡ delimiters.Parenthesis → HasClauseEnd mid clause part rest
    → HasEnd struct_class trees (bodies.Struct (fields.Tuple g)) clause part rest
tuple_has trees mid clause part rest g whole round has = record {
  from_clause = mid;
  from_body = has.from_semicolon;
  fields = whole;
  clause_read = has.clause_read;
  last = has.end.whole;
  shape = (round, semicolon_alone has.from_semicolon part rest has.end);
}

-- what is returned of the end of a struct
abbrev ReadsEnd : G → List TokenTree → Result (Ended × Bor (List TokenTree)) (Bor (List TokenTree)) → Type 0
ReadsEnd g trees result =
    MatchResult result
    (λ found. Finds g trees found.1.now
    × HasEnd struct_class trees found.0.body found.0.where_clause.now found.0.semicolon.now found.1.now)
    (λ left. Sticks g trees left.now)

module _ (trees : List TokenTree) (none : (g : Grouped) (rest : List TokenTree) → trees ≡ Group g ∷ rest
    → g.delimiter ≡ delimiters.Parenthesis → ⊥) where
  no_tuple : heads tuple_end (classes_in trees) ≡ false
  no_tuple = tuple_heads (classes_in trees) ∙ no_round trees none

  other_end : (rest : List TokenTree) → Finds plain_end trees rest → Finds struct_rest trees rest
  other_end rest f = other_finds tuple_end plain_end trees rest no_tuple refl f

  other_fails : (left : List TokenTree) → Sticks plain_end trees left → Sticks struct_rest trees left
  other_fails left s = other_sticks tuple_end plain_end trees left no_tuple refl s

  pub other_reads : (result : Result (Ended × Bor (List TokenTree)) (Bor (List TokenTree)))
      → ReadsEnd plain_end trees result
      → ReadsEnd struct_rest trees result
  other_reads (Ok found) r = (other_end found.1.now r.0, r.1)
  other_reads (Err left) r = other_fails left.now r

-- ---- the end of an enum or a union

pub enum_has : (trees clause none rest : List TokenTree) (g : Bor Grouped) → HasBraces trees clause g.now rest
    → none ≡ []
    → HasEnd (classes.Keyword keywords.Enum) trees (bodies.Enum g) clause none rest
enum_has trees clause none rest g has e = record {
  from_clause = trees;
  from_body = has.from_body;
  fields = refl;
  clause_read = has.clause_read;
  last = has.whole ∙ ap (λ p. Group g.now ∷ (p ++ rest)) (sym e);
  shape = (has.braces, e);
}

pub union_has : (trees clause none rest : List TokenTree) (g : Bor Grouped) → HasBraces trees clause g.now rest
    → none ≡ []
    → HasEnd (classes.Word words.Union) trees (bodies.Union g) clause none rest
union_has trees clause none rest g has e = record {
  from_clause = trees;
  from_body = has.from_body;
  fields = refl;
  clause_read = has.clause_read;
  last = has.whole ∙ ap (λ p. Group g.now ∷ (p ++ rest)) (sym e);
  shape = (has.braces, e);
}

-- ---- from the name on

abbrev from_generics : Declared → G
from_generics declared = Then generics (end_of declared)

module _ (declared : Declared) where
  name_read : (trees mid : List TokenTree) (n : Name) → IsNameAt trees n mid → Finds name trees mid
  name_read trees mid n at = mark_finds NamedPart word trees mid (name_finds trees mid n at)

  pub named_finds : (trees mid next rest : List TokenTree) (n : Name) → IsNameAt trees n mid → Finds generics mid next
      → Finds (end_of declared) next rest
      → Finds (from_name declared) trees rest
  named_finds trees mid next rest n at f g =
      then_finds name (from_generics declared) trees mid rest (name_read trees mid n at)
      (then_finds generics (end_of declared) mid next rest f g)

  pub named_has : (trees mid next rest : List TokenTree) (named : Named) → IsNameAt trees named.name.now mid
      → Finds generics mid next → mid ≡ named.generics.now ++ next
      → HasEnd (class_of declared) next named.end.body named.end.where_clause.now named.end.semicolon.now rest
      → HasNamed declared trees named rest
  named_has trees mid next rest named at f whole end = record {
    from_generics = mid;
    from_end = next;
    name_read = at;
    generics_read = found_reads generics starts_generics mid named.generics.now next f whole;
    end = end;
  }

  pub named_ends : (trees mid next left : List TokenTree) (n : Name) → IsNameAt trees n mid → Finds generics mid next
      → Sticks (end_of declared) next left
      → Sticks (from_name declared) trees left
  named_ends trees mid next left n at f s =
      then_fails name (from_generics declared) trees mid left (name_read trees mid n at)
      (then_fails generics (end_of declared) mid next left f s)

  pub named_fails : (trees mid left : List TokenTree) (n : Name) → IsNameAt trees n mid → Sticks generics mid left
      → Sticks (from_name declared) trees left
  named_fails trees mid left n at s =
      then_fails name (from_generics declared) trees mid left (name_read trees mid n at)
      (then_sticks generics (end_of declared) mid left s)

  pub named_sticks : (trees left : List TokenTree) → Sticks word trees left → Sticks (from_name declared) trees left
  named_sticks trees left s =
      then_sticks name (from_generics declared) trees left (mark_sticks NamedPart word trees left s)

pub ruleset named = (named_finds, named_has, named_ends, named_fails, named_sticks)

-- ---- the keyword

declares_class : (class : SignClass) (declared : Declared) → declared_by class ≡ Some declared
    → class ≡ class_of declared
declares_class (classes.Keyword keywords.Struct) declared e =
    let same : declare.Struct ≡ declared = cc in ap class_of same
declares_class (classes.Keyword keywords.Enum) declared e =
    let same : declare.Enum ≡ declared = cc in ap class_of same
declares_class (classes.Word words.Union) declared e =
    let same : declare.Union ≡ declared = cc in ap class_of same
declares_class class declared e = cc

declares_none : (class : SignClass) → declared_by class ≡ None → may_begin type_keyword class ≡ false
declares_none (classes.Keyword keywords.Struct) e = cc
declares_none (classes.Keyword keywords.Enum) e = cc
declares_none (classes.Word words.Union) e = cc
declares_none class e = refl

pub keyword_at : (trees rest : List TokenTree) (keyword : Name) (class : SignClass) (declared : Declared)
    → trees ≡ Ident keyword ∷ rest → class ≡ name_class keyword → declared_by class ≡ Some declared
    → IsKeywordAt trees keyword declared rest
keyword_at trees rest keyword class declared whole is e =
    record { whole = whole; class = sym is ∙ declares_class class declared e }

pub other_keyword : (trees rest : List TokenTree) (keyword : Name) (class : SignClass)
    → trees ≡ Ident keyword ∷ rest → class ≡ name_class keyword → declared_by class ≡ None
    → Sticks type_keyword trees trees
other_keyword trees rest keyword class whole is e =
    lacks type_keyword trees
    (heads_sign type_keyword trees rest (name_class keyword) (begins_name trees rest keyword whole)
    ∙ (ap (may_begin type_keyword) (sym is) ∙ declares_none class e)) refl

abbrev is_type : SignClass → Bool
is_type = may_begin type_keyword

abbrev type_sign : G
type_sign = Sign is_type

keyword_heads : (cs : List SignClass) → heads type_keyword cs ≡ heads type_sign cs
keyword_heads [] = refl
keyword_heads (c ∷ cs) = refl

type_sort : (c : SignClass) → is_type c ≡ true → sort_of c ≡ names
type_sort (classes.Keyword k) h = refl
type_sort (classes.Word w) h = refl
type_sort _ h = absurd (both_ways _ refl h)

pub no_keyword : (trees : List TokenTree)
    → ((n : Name) (rest : List TokenTree) → trees ≡ Ident n ∷ rest → ⊥)
    → Sticks type_keyword trees trees
no_keyword trees none =
    lacks type_keyword trees
    (keyword_heads (classes_in trees)
    ∙ no_sign is_type trees
    (λ sign after e h.
    let at = is_identifier_sign trees sign after e (type_sort sign.class h) in none at.0 at.1.more at.1.whole)) refl

pub ruleset keywords_of = (keyword_at, other_keyword, no_keyword)

-- ---- from the keyword on

keyword_leads : (trees mid : List TokenTree) (keyword : Name) (declared : Declared)
    → IsKeywordAt trees keyword declared mid
    → LeadsTo type_keyword trees (from_name declared) mid
keyword_leads trees mid keyword declared at =
    go declared (subst (λ c. BeginsWith trees c mid) at.class (begins_name trees mid keyword at.whole))
  where
    go : (declared : Declared) → BeginsWith trees (class_of declared) mid
        → LeadsTo type_keyword trees (from_name declared) mid
    go declare.Struct b = leads_sign type_keyword (from_name declare.Struct) trees mid (class_of declare.Struct) b refl
    go declare.Enum b = leads_sign type_keyword (from_name declare.Enum) trees mid (class_of declare.Enum) b refl
    go declare.Union b = leads_sign type_keyword (from_name declare.Union) trees mid (class_of declare.Union) b refl

pub declared_finds : (trees mid rest : List TokenTree) (keyword : Name) (declared : Declared)
    → IsKeywordAt trees keyword declared mid → Finds (from_name declared) mid rest
    → Finds item_rest trees rest
declared_finds trees mid rest keyword declared at f =
    mark_finds Front type_keyword trees rest
    (leads_finds type_keyword (from_name declared) trees mid rest (keyword_leads trees mid keyword declared at) f)

pub declared_has : (trees mid rest : List TokenTree) (keyword : Name) (declared : Declared) (named : Named)
    → IsKeywordAt trees keyword declared mid → HasNamed declared mid named rest
    → HasDeclared trees keyword named rest
declared_has trees mid rest keyword declared named at has =
    record { declared = declared; after_keyword = mid; keyword_read = at; named_read = has }

pub declared_fails : (trees mid left : List TokenTree) (keyword : Name) (declared : Declared)
    → IsKeywordAt trees keyword declared mid → Sticks (from_name declared) mid left
    → Sticks item_rest trees left
declared_fails trees mid left keyword declared at s =
    mark_sticks Front type_keyword trees left
    (leads_sticks type_keyword (from_name declared) trees mid left (keyword_leads trees mid keyword declared at) s)

pub declared_sticks : (trees left : List TokenTree) → Sticks type_keyword trees left → Sticks item_rest trees left
declared_sticks trees left s = mark_sticks Front type_keyword trees left s

pub ruleset declarations = (declared_finds, declared_has, declared_fails, declared_sticks)

-- ---- the whole item

pub starts_item : IsStart rules follows (type_item ∷ [])
starts_item = begin.type_item_starts

pub item_finds : (trees a v mid rest : List TokenTree) → ReadsFront trees a v mid → Finds item_rest mid rest
    → Finds type_item trees rest
item_finds = front_finds item_rest

pub item_fails : (trees a v mid left : List TokenTree) → ReadsFront trees a v mid → Sticks item_rest mid left
    → Sticks type_item trees left
item_fails = front_fails item_rest

pub item_sticks : (trees left : List TokenTree) → Sticks attributes trees left → Sticks type_item trees left
item_sticks = front_sticks item_rest

-- what comes after the generic parameters, if nothing follows it
end_alone : (keyword : SignClass) (trees : List TokenTree) (body : Body) (clause part rest : List TokenTree)
    → HasEnd keyword trees body clause part rest → rest ≡ []
    → HasEnding keyword trees body clause part
end_alone keyword trees body clause part rest end none =
    let after = after_clause body part in
    let last : end.from_body ≡ after = end.last ∙ (ap (λ r. after ++ r) none ∙ append-nil after) in
    let whole : end.from_clause ≡ clause ++ after = end.clause_read.whole ∙ ap (λ r. clause ++ r) last in
    record {
      whole = end.fields ∙ ap (with_tuple body) whole;
      clause_reads = subst (λ ts. Reads IsWhere ts clause after) whole
          (subst (Reads IsWhere end.from_clause clause) last end.clause_read);
      shape = end.shape;
    }

-- the parts that were found are the parts of the item
pub item_parts : (trees mid rest : List TokenTree) (item : TypeItem) (named : Named)
    → ReadsFront trees item.attributes.now item.visibility.now mid → Finds item_rest mid rest
    → HasDeclared mid item.keyword.now named rest → item.name.now ≡ named.name.now
    → item.generics.now ≡ named.generics.now → item.body ≡ named.end.body
    → item.where_clause.now ≡ named.end.where_clause.now → item.semicolon.now ≡ named.end.semicolon.now → rest ≡ []
    → IsTypeItem trees item
item_parts trees mid rest item named f h has name_is generics_are body_is clause_is semicolon_is none =
    let a = item.attributes.now in
    let v = item.visibility.now in
    let n = has.named_read in
    let read : IsNameAt has.after_keyword item.name.now n.from_generics =
    subst (λ i. IsNameAt has.after_keyword i n.from_generics) (sym name_is) n.name_read in
    let brackets : Reads (ByRule generics) n.from_generics item.generics.now n.from_end =
    subst (λ i. Reads (ByRule generics) n.from_generics i n.from_end) (sym generics_are) n.generics_read in
    let end : HasEnd (name_class item.keyword.now) n.from_end item.body item.where_clause.now item.semicolon.now rest =
    rw (has.keyword_read.class, body_is, clause_is, semicolon_is) n.end in
    let ending = end_alone (name_class item.keyword.now) n.from_end item.body item.where_clause.now item.semicolon.now
    rest end none in
    let e5 : n.from_end ≡ spec.after_generics item = ending.whole in
    let e4 : n.from_generics ≡ spec.after_name item = brackets.whole ∙ ap (λ r. item.generics.now ++ r) e5 in
    let e3 : has.after_keyword ≡ Ident item.name.now ∷ spec.after_name item =
    read.whole ∙ ap (λ r. Ident item.name.now ∷ r) e4 in
    let e2 : mid ≡ spec.after_visibility item = has.keyword_read.whole ∙ ap (λ r. Ident item.keyword.now ∷ r) e3 in
    let e1 : f.from_visibility ≡ spec.after_attributes item = f.visibility_whole ∙ ap (λ r. v ++ r) e2 in
    let attributed = parts_read.attributes_reads trees a f.from_visibility f.attributes_found f.attributes_whole in
    let visible = parts_read.visibility_reads f.from_visibility v mid f.visibility_found f.visibility_whole in
    record {
      all = whole_read type_item starts_item trees rest (item_finds trees a v mid rest f h) (ap length none);
      whole = f.attributes_whole ∙ ap (λ r. a ++ r) e1;
      attributes = subst (Reads AreAttributes trees a) e1 attributed;
      visibility = subst (λ r. Reads IsVisibility r v (spec.after_visibility item)) e1
          (subst (Reads IsVisibility f.from_visibility v) e2 visible);
      name = read.is_name;
      generics = subst (λ r. Reads AreGenerics r item.generics.now (spec.after_generics item)) e4
          (subst (Reads AreGenerics n.from_generics item.generics.now) e5 brackets);
      end = subst (λ r. HasEnding (name_class item.keyword.now) r item.body item.where_clause.now item.semicolon.now) e5
          ending;
    }

pub ruleset items = (item_finds, item_fails, item_sticks, item_parts)

-- ---- what is promised

pub item_all : (trees rest : List TokenTree) (item : TypeItem) → (rest ≡ [] → IsTypeItem trees item)
    → length rest ≡ 0
    → IsTypeItem trees item
item_all trees [] item f none = f refl
item_all trees (tree ∷ rest) item f none = absurd (omega arith)

pub item_left : (trees rest : List TokenTree) (at : ℕ) → Finds type_item trees rest → (length rest ≡ 0 → ⊥)
    → at ≡ length trees - length rest
    → FaultAt (IsWhole IsItem) trees at
item_left = rule_left type_item starts_item

pub item_stuck : (trees left : List TokenTree) (at : ℕ) → Sticks type_item trees left
    → at ≡ length trees - length left
    → FaultAt (IsWhole IsItem) trees at
item_stuck = rule_stuck type_item starts_item

pub left_span : (trees rest : List TokenTree) (at : ℕ) (span : Option Extent) → Finds type_item trees rest
    → at ≡ length trees - length rest → span ≡ first_extent rest
    → span ≡ extent_at trees at
left_span trees rest at span f counted first = remains_span trees rest at span f.remains counted first

pub stuck_span : (trees left : List TokenTree) (at : ℕ) (span : Option Extent) → Sticks type_item trees left
    → at ≡ length trees - length left → span ≡ first_extent left
    → span ≡ extent_at trees at
stuck_span trees left at span s counted first = remains_span trees left at span s.remains counted first

pub left_expects : (trees rest : List TokenTree) (at : ℕ) (set : Expected) → Finds type_item trees rest
    → (length rest ≡ 0 → ⊥) → at ≡ length trees - length rest → ExpectsWhole type_item trees set
    → Expects IsItem trees at set
left_expects = rule_expects.left_expects type_item starts_item

pub stuck_expects : (trees left : List TokenTree) (at : ℕ) (set : Expected) → Sticks type_item trees left
    → at ≡ length trees - length left → ExpectsWhole type_item trees set
    → Expects IsItem trees at set
stuck_expects = rule_expects.stuck_expects type_item starts_item

pub ruleset promises = (item_all, item_left, item_stuck, left_span, stuck_span, left_expects, stuck_expects)
