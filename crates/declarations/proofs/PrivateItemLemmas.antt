-- Items without a visibility, read by rules.
use Rattle.std.proofs.Common.{◌≡◌, refl, sym, ◌∙◌, ap, Bool, true, false, List, [], ◌∷◌, Some}
use Rattle.std.proofs.lemmas.Bool.{both_ways}
use Rattle.std.specs.Prelude.{Result}
use Rattle.std.specs.Borrow.{Bor}
use Rattle.grammars.specs.Find.{Past, find, front, scan}
use Rattle.grammars.specs.First.{heads}
use Rattle.grammars.specs.Grammar.{Either, Nothing, One}
use Rattle.grammars.specs.Machine.{step}
use Rattle.grammars.proofs.FindLemmas.{scan_step}
use Rattle.grammars.proofs.WordLemmas.{find_other}
use Rattle.pm_stream.specs.declared.stream.TokenTree.{TokenTree}
use Rattle.declarations.specs.ItemFront.{BeginsPath, IsKindAt, ReadsKind, is_call}
use Rattle.declarations.specs.Kind.{named_rule}
use Rattle.declarations.specs.Parameter.{LeadsTo}
use Rattle.declarations.specs.Reader.{Finds, Sticks, classes_in}
use Rattle.declarations.specs.Signs.{BeginsWith}
use Rattle.declarations.specs.declared.any_item.ItemKind.TheVariants as kinds
use Rattle.declarations.specs.declared.item_front.FoundItem.{FoundItem}
use Rattle.item_tables.specs.Classes.{is}
use Rattle.item_tables.specs.declared.class.SignClass.{SignClass}
use Rattle.item_tables.specs.declared.class.SignClass.TheVariants as signs
use Rattle.item_tables.specs.declared.class.Keyword.TheVariants as keywords
use Rattle.item_tables.specs.declared.class.Word.TheVariants as words
use Rattle.declarations.specs.rules.Fronts.{auto_front, default_front, gen_front, is_segment, safe_front}
use Rattle.declarations.specs.rules.Items.{call, declaration, private_item}
use Rattle.declarations.specs.rules.Names.{G, one}
use Rattle.declarations.specs.rules.Rules.{rules}
use Rattle.declarations.proofs.ItemFrontLemmas.{begins_as, keyword_kind, kind_as, leads_first, same_find}
use Rattle.declarations.proofs.ParameterLemmas.{leads_sign}
use Rattle.declarations.proofs.ReaderLemmas.{classes_sign, heads_none, heads_nothing, heads_sign, lacks, perhaps_stays}
use Rattle.declarations.proofs.ReaderLemmas.{remains_sign, sign_finds, stays}

-- what functions return
abbrev Found : Type 0
Found = Result FoundItem (Bor (List TokenTree))

-- ---- groups without delimiters

-- the sign is all that the rule reads
one_finds : (g : G) (trees rest : List TokenTree) (class : SignClass) → BeginsWith trees class rest
    → step rules (g ∷ []) class ≡ Some (One class ∷ [], [])
    → Finds g trees rest
unfolding find
one_finds g trees rest class b e = record {
  events = One class ∷ [];
  found = ap (find rules g) (classes_sign trees rest class b)
      ∙ (scan_step rules (g ∷ []) class (classes_in rest) (Some (One class ∷ [], [])) e ∙ ends (classes_in rest));
  remains = remains_sign trees rest class b;
}
  where
    ends : (cs : List SignClass) → front (One class ∷ []) (scan rules [] cs) ≡ Past (One class ∷ []) cs
    ends [] = refl
    ends (c ∷ cs) = refl

pub group_item : (trees rest : List TokenTree) (class : SignClass) (b : Bool) → BeginsWith trees class rest
    → b ≡ is signs.Invisible class → b ≡ true
    → Finds private_item trees rest × IsKindAt trees kinds.Group trees rest
group_item trees rest class b at e h =
    let here = begins_as trees rest signs.Invisible class b at e h in (
      one_finds private_item trees rest signs.Invisible here refl,
      keyword_kind Nothing trees trees kinds.Group trees rest
          (stays Nothing trees (heads_nothing (classes_in trees)) refl) refl refl
          (sign_finds (is signs.Invisible) trees rest signs.Invisible here refl),
    )

pub separator_at : (trees rest : List TokenTree) (class : SignClass) (b : Bool) → BeginsWith trees class rest
    → b ≡ is signs.PathSeparator class → b ≡ true
    → BeginsWith trees signs.PathSeparator rest
separator_at trees rest class b at e h = begins_as trees rest signs.PathSeparator class b at e h

-- ---- macro calls

-- a word that begins other items too
word_leads : (w : SignClass) (other : G) (trees mid : List TokenTree) → BeginsWith trees w mid
    → step rules (private_item ∷ []) w ≡ Some (One w ∷ [], Either call other ∷ [])
    → heads call (classes_in mid) ≡ true
    → LeadsTo private_item trees call mid
word_leads w other trees mid at e h =
    leads_first private_item call other trees mid (leads_sign private_item (Either call other) trees mid w at e) h

class_leads : (class : SignClass) (trees mid : List TokenTree) → BeginsWith trees class mid
    → is_call class (classes_in mid) ≡ true
    → LeadsTo private_item trees call mid
class_leads (signs.Word words.Auto) trees mid at h =
    word_leads (signs.Word words.Auto) auto_front trees mid at refl h
class_leads (signs.Word words.Default) trees mid at h =
    word_leads (signs.Word words.Default) default_front trees mid at refl h
class_leads (signs.Word words.Gen) trees mid at h =
    word_leads (signs.Word words.Gen) gen_front trees mid at refl h
class_leads (signs.Word words.Safe) trees mid at h =
    word_leads (signs.Word words.Safe) safe_front trees mid at refl h
class_leads (signs.Word words.Union) trees mid at h =
    word_leads (signs.Word words.Union) (named_rule kinds.Union) trees mid at refl h
class_leads (signs.Word words.Plain) trees mid at h =
    leads_sign private_item call trees mid (signs.Word words.Plain) at refl
class_leads signs.SelfValue trees mid at h = leads_sign private_item call trees mid signs.SelfValue at refl
class_leads signs.Super trees mid at h = leads_sign private_item call trees mid signs.Super at refl
class_leads signs.Crate trees mid at h = leads_sign private_item call trees mid signs.Crate at refl
class_leads (signs.Keyword keywords.Async) trees mid at h = absurd (both_ways _ refl h)
class_leads (signs.Keyword _) trees mid at h = absurd (both_ways _ refl h)
class_leads _ trees mid at h = absurd (both_ways _ refl h)

pub call_leads : (trees mid : List TokenTree) (class : SignClass) (b : Bool) → BeginsWith trees class mid
    → b ≡ is_call class (classes_in mid) → b ≡ true
    → LeadsTo private_item trees call mid
call_leads trees mid class b at e h = class_leads class trees mid at (sym e ∙ h)

-- a sign that begins a macro call is a segment of its path
call_segment : (class : SignClass) (cs : List SignClass) → is_call class cs ≡ true → is_segment class ≡ true
call_segment (signs.Word words.Auto) cs h = refl
call_segment (signs.Word _) cs h = refl
call_segment signs.SelfValue cs h = refl
call_segment signs.Super cs h = refl
call_segment signs.Crate cs h = refl
call_segment (signs.Keyword keywords.Async) cs h = absurd (both_ways _ refl h)
call_segment (signs.Keyword _) cs h = absurd (both_ways _ refl h)
call_segment _ cs h = absurd (both_ways _ refl h)

-- `::` is no segment
segment_apart : (class : SignClass) → is_segment class ≡ true → is signs.PathSeparator class ≡ false
segment_apart (signs.Word words.Auto) h = refl
segment_apart (signs.Word _) h = refl
segment_apart (signs.Keyword keywords.Async) h = refl
segment_apart (signs.Keyword _) h = refl
segment_apart signs.PathSeparator h = absurd (both_ways _ refl h)
segment_apart _ h = refl

pub call_begins : (trees mid : List TokenTree) (class : SignClass) (b : Bool) → BeginsWith trees class mid
    → b ≡ is_call class (classes_in mid) → b ≡ true
    → BeginsPath trees mid
call_begins trees mid class b at e h =
    let segment = call_segment class (classes_in mid) (sym e ∙ h) in
    record {
      from_segment = trees;
      separator = perhaps_stays (one signs.PathSeparator) trees
          (heads_sign (one signs.PathSeparator) trees mid class at ∙ segment_apart class segment);
      segment = sign_finds is_segment trees mid class at segment;
    }

-- ---- other items

step_find : (g h : G) (c : SignClass) (cs : List SignClass) → step rules (g ∷ []) c ≡ Some (One c ∷ [], h ∷ [])
    → find rules g (c ∷ cs) ≡ front (One c ∷ []) (find rules h cs)
unfolding find
step_find g h c cs e = scan_step rules (g ∷ []) c cs (Some (One c ∷ [], h ∷ [])) e

-- a word that begins no macro call
word_same : (w : SignClass) (other : G) (cs : List SignClass)
    → step rules (private_item ∷ []) w ≡ Some (One w ∷ [], Either call other ∷ [])
    → step rules (declaration ∷ []) w ≡ Some (One w ∷ [], other ∷ []) → heads call cs ≡ false
    → find rules private_item (w ∷ cs) ≡ find rules declaration (w ∷ cs)
word_same w other cs e d h =
    step_find private_item (Either call other) w cs e
    ∙ (ap (front (One w ∷ [])) (find_other rules call other cs h refl) ∙ sym (step_find declaration other w cs d))

class_same : (class : SignClass) (cs : List SignClass) → is signs.Invisible class ≡ false
    → is signs.PathSeparator class ≡ false → is_call class cs ≡ false
    → find rules private_item (class ∷ cs) ≡ find rules declaration (class ∷ cs)
class_same (signs.Word words.Auto) cs i p h = word_same (signs.Word words.Auto) auto_front cs refl refl h
class_same (signs.Word words.Default) cs i p h = word_same (signs.Word words.Default) default_front cs refl refl h
class_same (signs.Word words.Gen) cs i p h = word_same (signs.Word words.Gen) gen_front cs refl refl h
class_same (signs.Word words.Safe) cs i p h = word_same (signs.Word words.Safe) safe_front cs refl refl h
class_same (signs.Word words.Union) cs i p h =
    word_same (signs.Word words.Union) (named_rule kinds.Union) cs refl refl h
class_same (signs.Word words.Plain) cs i p h = absurd (both_ways _ h refl)
class_same signs.SelfValue cs i p h = absurd (both_ways _ h refl)
class_same signs.Super cs i p h = absurd (both_ways _ h refl)
class_same signs.Crate cs i p h = absurd (both_ways _ h refl)
class_same signs.Invisible cs i p h = absurd (both_ways _ i refl)
class_same signs.PathSeparator cs i p h = absurd (both_ways _ p refl)
class_same (signs.Keyword keywords.Async) cs i p h =
    same_find private_item declaration (signs.Keyword keywords.Async) cs refl refl refl
class_same (signs.Keyword _) cs i p h = same_find private_item declaration _ cs refl refl refl
class_same _ cs i p h = same_find private_item declaration _ cs refl refl refl

pub private_declaration : (trees rest : List TokenTree) (class : SignClass) (i p b : Bool) (result : Found)
    → BeginsWith trees class rest → i ≡ is signs.Invisible class → i ≡ false → p ≡ is signs.PathSeparator class
    → p ≡ false → b ≡ is_call class (classes_in rest) → b ≡ false → ReadsKind declaration trees result
    → ReadsKind private_item trees result
private_declaration trees rest class i p b result at i_is no_group p_is no_separator b_is no_call f =
    let whole = classes_sign trees rest class at in
    kind_as private_item declaration trees result
    (ap (find rules private_item) whole
    ∙ (class_same class (classes_in rest) (sym i_is ∙ no_group) (sym p_is ∙ no_separator) (sym b_is ∙ no_call)
    ∙ sym (ap (find rules declaration) whole)))
    f

pub private_none : (trees : List TokenTree) → trees ≡ [] → Sticks private_item trees trees
private_none trees e = lacks private_item trees (heads_none private_item trees e) refl

pub ruleset private_items = (
  group_item,
  separator_at,
  call_leads,
  call_begins,
  private_declaration,
  private_none,
)
