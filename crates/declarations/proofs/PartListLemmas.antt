-- Lists of parts with `,` between two, read by functions.
use Rattle.std.proofs.Common.{◌≡◌, refl, sym, ◌∙◌, ap, ◌<◌, length, Bool, true, false, List, [], ◌∷◌, ◌++◌, arith}
use Rattle.std.proofs.lemmas.Bool.{both_ways}
use Rattle.std.proofs.lemmas.List.{length-append}
use Rattle.grammars.specs.Find.{Past, Stuck}
use Rattle.grammars.specs.First.{heads}
use Rattle.grammars.specs.Grammar.{further}
use Rattle.grammars.specs.Machine.{is_nullable}
use Rattle.grammars.proofs.WordLemmas.{find_lacks}
use Rattle.pm_stream.specs.declared.stream.TokenTree.{TokenTree}
use Rattle.declarations.specs.Parameter.{LeadsTo}
use Rattle.declarations.specs.PartList.{IsNext, element_rule, list_rule}
use Rattle.declarations.specs.Reader.{Finds, Remains, Sticks, classes_in}
use Rattle.declarations.specs.Signs.{BeginsWith, Sign, classes_of, signs, trees_of}
use Rattle.declarations.specs.declared.part_list.Element.{Element}
use Rattle.declarations.specs.declared.part_list.Element.TheVariants as elements
use Rattle.declarations.specs.rules.Names.{Rest, comma, one}
use Rattle.declarations.specs.rules.Rules.{rules}
use Rattle.item_tables.specs.Classes.{is}
use Rattle.item_tables.specs.declared.class.SignClass.{SignClass}
use Rattle.item_tables.specs.declared.class.SignClass.TheVariants as classes
use Rattle.declarations.proofs.ListedLemmas.{element_leads, element_sticks, further_ends, further_leads, list_ends}
use Rattle.declarations.proofs.LoopLemmas.{stuck_fewer}
use Rattle.declarations.proofs.ParameterLemmas.{leads_finds, leads_on, leads_sticks}
use Rattle.declarations.proofs.ReadingLemmas.{classes-append}
use Rattle.declarations.proofs.ReaderLemmas.{heads_none, heads_sign, mark_finds, remains_within, sign_finds}

solid : (e : Element) → is_nullable (element_rule e) ≡ false
solid elements.Field = refl
solid _ = refl

-- ---- whether an element is begun

-- an element that is found is begun
begun : (e : Element) (trees mid : List TokenTree) → Finds (element_rule e) trees mid
    → heads (element_rule e) (classes_in trees) ≡ true
begun e trees mid f = go (heads (element_rule e) (classes_in trees)) refl
  where
    go : (b : Bool) → heads (element_rule e) (classes_in trees) ≡ b → b ≡ true
    go true h = refl
    go false h =
        let both : Past f.events (classes_in mid) ≡ Stuck (classes_in trees) =
        sym f.found ∙ find_lacks rules (element_rule e) (classes_in trees) h (solid e) in
        absurd cc

-- trees of the same number that are left are all the trees
all_left : (trees left : List TokenTree) → Remains left trees → length left ≡ length trees → left ≡ trees
all_left trees left r e = go (trees_of r.front) r.whole
  where
    go : (before : List TokenTree) → trees ≡ before ++ left → left ≡ trees
    go [] whole = sym whole
    go (tree ∷ before) whole =
        let size = ap length whole ∙ length-append (tree ∷ before) left in
        absurd (omega arith)

-- if the error is at the start, no element is begun
not_begun : (e : Element) (trees left : List TokenTree) → Sticks (element_rule e) trees left
    → length left ≡ length trees
    → heads (element_rule e) (classes_in trees) ≡ false
not_begun e trees left f same = go (heads (element_rule e) (classes_in trees)) refl
  where
    go : (b : Bool) → heads (element_rule e) (classes_in trees) ≡ b → b ≡ false
    go false h = refl
    go true h =
        let fewer = stuck_fewer (element_rule e) (classes_in trees) (classes_in left) h f.stuck in
        let sizes = ap (λ ts. length (classes_in ts)) (all_left trees left f.remains same) in
        absurd (omega (arith, fewer, sizes))

-- if the error is further on, an element is begun
begun_on : (e : Element) (trees left : List TokenTree) → Sticks (element_rule e) trees left
    → (length left ≡ length trees → ⊥)
    → heads (element_rule e) (classes_in trees) ≡ true
unfolding classes_in
begun_on e trees left f differ = go (heads (element_rule e) (classes_in trees)) refl
  where
    empty : (front : List Sign) (cs : List SignClass) → cs ≡ classes_of front ++ cs → front ≡ []
    empty [] cs h = refl
    empty (sign ∷ front) cs h =
        let size = ap length h ∙ length-append (classes_of (sign ∷ front)) cs in
        absurd (omega arith)

    go : (b : Bool) → heads (element_rule e) (classes_in trees) ≡ b → b ≡ true
    go true h = refl
    go false h =
        let both : Stuck (classes_in left) ≡ Stuck (classes_in trees) =
        sym f.stuck ∙ find_lacks rules (element_rule e) (classes_in trees) h (solid e) in
        let same : classes_in left ≡ classes_in trees = cc in
        let r = f.remains in
        let none : r.front ≡ [] = empty r.front (classes_in left)
        (same ∙ (ap classes_of r.read ∙ classes-append r.front (signs left))) in
        absurd (differ (ap length (sym (r.whole ∙ ap (λ ss. trees_of ss ++ left) none))))

-- ---- the next element

module _ (e : Element) (trees mid : List TokenTree) (f : Finds (element_rule e) trees mid) where
  after_element : LeadsTo (list_rule e) trees (further (element_rule e) comma) mid
  after_element = element_leads (element_rule e) comma trees mid (begun e trees mid f) f

  pub next_comma : (rest : List TokenTree) (class : SignClass) (more : Bool) → BeginsWith mid class rest
      → more ≡ is classes.Comma class → more ≡ true
      → LeadsTo (list_rule e) trees (list_rule e) rest
  next_comma rest class more b h is_more =
      let here : is classes.Comma class ≡ true = sym h ∙ is_more in
      leads_on (list_rule e) (further (element_rule e) comma) (list_rule e) trees mid rest after_element
      (further_leads (element_rule e) comma mid rest (heads_sign comma mid rest class b ∙ here)
      (mark_finds Rest (one classes.Comma) mid rest (sign_finds (is classes.Comma) mid rest class b here)))

  pub next_fewer : (rest : List TokenTree) (class : SignClass) → BeginsWith mid class rest
      → length rest < length trees
  next_fewer rest class b =
      let within = remains_within trees mid f.remains in
      let fewer = b.fewer in
      omega (arith, within, fewer)

  pub next_last : (rest : List TokenTree) (class : SignClass) (more : Bool) → BeginsWith mid class rest
      → more ≡ is classes.Comma class → more ≡ false
      → Finds (list_rule e) trees mid
  next_last rest class more b h none =
      leads_finds (list_rule e) (further (element_rule e) comma) trees mid mid after_element
      (further_ends (element_rule e) comma mid (heads_sign comma mid rest class b ∙ (sym h ∙ none)) refl)

  pub next_end : mid ≡ [] → Finds (list_rule e) trees mid
  next_end none =
      leads_finds (list_rule e) (further (element_rule e) comma) trees mid mid after_element
      (further_ends (element_rule e) comma mid (heads_none comma mid none) refl)

pub next_stuck : (e : Element) (trees left : List TokenTree) → Sticks (element_rule e) trees left
    → (length left ≡ length trees → ⊥)
    → Sticks (list_rule e) trees left
next_stuck e trees left f differ =
    element_sticks (element_rule e) comma trees left (begun_on e trees left f differ) f

pub next_none : (e : Element) (trees left : List TokenTree) → Sticks (element_rule e) trees left
    → length left ≡ length trees
    → Finds (list_rule e) trees trees
next_none e trees left f same = list_ends (element_rule e) comma trees (not_begun e trees left f same)

-- ---- the loop

pub last_next : (e : Element) (trees left rest : List TokenTree) (again : Bool)
    → LeadsTo (list_rule e) trees (list_rule e) left → again ≡ false → IsNext e again left rest
    → Finds (list_rule e) trees rest
last_next e trees left rest false l h n = leads_finds (list_rule e) (list_rule e) trees left rest l n
last_next e trees left rest true l h n = absurd (both_ways _ h refl)

pub more_next : (e : Element) (trees left rest : List TokenTree) (again : Bool)
    → LeadsTo (list_rule e) trees (list_rule e) left → again ≡ true → IsNext e again left rest
    → LeadsTo (list_rule e) trees (list_rule e) rest
more_next e trees left rest true l h n = leads_on (list_rule e) (list_rule e) (list_rule e) trees left rest l n
more_next e trees left rest false l h n = absurd (both_ways _ refl h)

pub stuck_next : (e : Element) (trees left fault : List TokenTree) → LeadsTo (list_rule e) trees (list_rule e) left
    → Sticks (list_rule e) left fault
    → Sticks (list_rule e) trees fault
stuck_next e trees left fault l f = leads_sticks (list_rule e) (list_rule e) trees left fault l f
