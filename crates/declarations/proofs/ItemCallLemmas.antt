-- Macro calls and items without a visibility, read by rules.
use Rattle.std.proofs.Common.{◌≡◌, refl, sym, ◌∙◌, ap, subst, Bool, true, false, List, [], ◌∷◌}
use Rattle.std.specs.Prelude.{Result, Ok, Err}
use Rattle.std.specs.Borrow.{Bor}
use Rattle.grammars.specs.Find.{Found as Spotted, Past, Stuck, and_then, find, front}
use Rattle.grammars.specs.First.{heads}
use Rattle.grammars.specs.Grammar.{Event, Many, Nothing, One, Sign, Then, To, perhaps}
use Rattle.grammars.proofs.FindLemmas.{front_front}
use Rattle.grammars.proofs.WordLemmas.{find_first, find_lacks, find_more, find_other, find_sign, find_skips, find_then}
use Rattle.grammars.proofs.WordLemmas.{find_to}
use Rattle.pm_stream.specs.declared.stream.TokenTree.{TokenTree}
use Rattle.declarations.specs.ItemFront.{BeginsPath, ReadsCall, ReadsKind}
use Rattle.declarations.specs.ItemRest.{further_segment}
use Rattle.declarations.specs.Kind.{call_path, keyword_rule, named_rule}
use Rattle.declarations.specs.Parameter.{LeadsTo}
use Rattle.declarations.specs.Reader.{Finds, Sticks, classes_in}
use Rattle.declarations.specs.Signs.{BeginsWith}
use Rattle.declarations.specs.declared.any_item.ItemKind.TheVariants as kinds
use Rattle.declarations.specs.declared.item_front.FoundItem.{FoundItem}
use Rattle.item_tables.specs.Classes.{is}
use Rattle.item_tables.specs.declared.class.SignClass.{SignClass}
use Rattle.item_tables.specs.declared.class.SignClass.TheVariants as signs
use Rattle.declarations.specs.rules.Fronts.{is_segment}
use Rattle.declarations.specs.rules.Items.{call, call_name, private_item}
use Rattle.declarations.specs.rules.Names.{Call, G, Label, Name, one}
use Rattle.declarations.specs.rules.Rules.{rules}
use Rattle.declarations.proofs.ClassLemmas.{same_class}
use Rattle.declarations.proofs.ItemFrontLemmas.{keyword_kind, to_leads}
use Rattle.declarations.proofs.ParameterLemmas.{leads_finds, leads_on, leads_sign, leads_sticks}
use Rattle.declarations.proofs.ReaderLemmas.{first_finds, heads_none, heads_sign, lacks, sign_finds, then_fails}
use Rattle.declarations.proofs.ReaderLemmas.{then_finds, then_sticks}
use Rattle.declarations.proofs.TreeLemmas.{or_nothing}

-- what functions return
abbrev Found : Type 0
Found = Result FoundItem (Bor (List TokenTree))

-- what rules find
abbrev Finding : Type 0
Finding = Spotted SignClass Label

-- ---- the rest of a macro call, with its segments as a list

-- `!` and what follows it
abbrev bang : G
bang = Then (one signs.Exclamation) call_name

-- `::`, a segment and the rest of the call
abbrev separated : G
separated = Then (one signs.PathSeparator) (To is_segment Call)

-- further segments, `!` and what follows it
abbrev listed : G
listed = Then (Many further_segment) bang

front_none : (f : Finding) → f ≡ front [] f
front_none (Past e r) = refl
front_none (Stuck l) = refl

and_then_front : (e : List (Event SignClass Label)) (x : Finding) (f : List SignClass → Finding)
    → and_then (front e x) f ≡ front e (and_then x f)
and_then_front e (Past events rest) f = sym (front_front e events (f rest))
and_then_front e (Stuck left) f = refl

bang_heads : (c : SignClass) (cs : List SignClass) → heads bang (c ∷ cs) ≡ is signs.Exclamation c
bang_heads c cs = or_nothing (is signs.Exclamation c) false

further_heads : (c : SignClass) (cs : List SignClass) → heads (Many further_segment) (c ∷ cs) ≡ is signs.PathSeparator c
further_heads c cs = or_nothing (is signs.PathSeparator c) false

-- where no `::` is next, both find `!` and what follows it
module _ (c : SignClass) (cs : List SignClass) (none : is signs.PathSeparator c ≡ false) where
  listed_bang : find rules bang (c ∷ cs) ≡ find rules listed (c ∷ cs)
  listed_bang =
      front_none (find rules bang (c ∷ cs))
      ∙ (ap (λ x. and_then x (find rules bang))
      (sym (find_skips rules (Many further_segment) (c ∷ cs) (further_heads c cs ∙ none) refl))
      ∙ sym (find_then rules (Many further_segment) bang (c ∷ cs)))

  call_bang : find rules call (c ∷ cs) ≡ find rules bang (c ∷ cs)
  call_bang = go (is signs.Exclamation c) refl
    where
      go : (b : Bool) → is signs.Exclamation c ≡ b → find rules call (c ∷ cs) ≡ find rules bang (c ∷ cs)
      go true h = find_first rules bang separated (c ∷ cs) (bang_heads c cs ∙ h)
      go false h =
          find_lacks rules call (c ∷ cs) (rw (h, none) refl) refl
          ∙ sym (find_lacks rules bang (c ∷ cs) (bang_heads c cs ∙ h) refl)

-- after `::`
module _ (c : SignClass) (cs : List SignClass) (at : is signs.PathSeparator c ≡ true)
    (no_bang : is signs.Exclamation c ≡ false) where
  call_separated : find rules call (c ∷ cs) ≡ front (One c ∷ []) (find rules (To is_segment Call) cs)
  call_separated =
      find_other rules bang separated (c ∷ cs) (bang_heads c cs ∙ no_bang) refl
      ∙ (find_then rules (one signs.PathSeparator) (To is_segment Call) (c ∷ cs)
      ∙ ap (λ x. and_then x (find rules (To is_segment Call))) (find_sign rules (is signs.PathSeparator) c cs at))

  listed_separated : find rules listed (c ∷ cs)
      ≡ and_then (and_then (front (One c ∷ []) (find rules (Sign is_segment) cs)) (find rules (Many further_segment)))
      (find rules bang)
  listed_separated =
      find_then rules (Many further_segment) bang (c ∷ cs)
      ∙ ap (λ x. and_then x (find rules bang))
      (find_more rules further_segment (c ∷ cs) (further_heads c cs ∙ at)
      ∙ ap (λ x. and_then x (find rules (Many further_segment)))
      (find_then rules (one signs.PathSeparator) (Sign is_segment) (c ∷ cs)
      ∙ ap (λ x. and_then x (find rules (Sign is_segment))) (find_sign rules (is signs.PathSeparator) c cs at)))

  no_segment : heads {N = Name} {L = Label} (Sign is_segment) cs ≡ false
      → find rules call (c ∷ cs) ≡ find rules listed (c ∷ cs)
  no_segment none =
      call_separated
      ∙ (ap (front (One c ∷ [])) (find_lacks rules (To is_segment Call) cs (same cs none) refl)
      ∙ (ap (λ x. and_then (and_then (front (One c ∷ []) x) (find rules (Many further_segment))) (find rules bang))
      (sym (find_lacks rules (Sign is_segment) cs none refl))
      ∙ sym listed_separated))
    where
      same : (cs : List SignClass) → heads {N = Name} {L = Label} (Sign is_segment) cs ≡ false
          → heads {L = Label} (To is_segment Call) cs ≡ false
      same [] h = refl
      same (d ∷ ds) h = h

-- `::` and a segment
module _ (c d : SignClass) (ds : List SignClass) (at : is signs.PathSeparator c ≡ true)
    (no_bang : is signs.Exclamation c ≡ false) (segment : is_segment d ≡ true) where
  one_more : find rules call ds ≡ find rules listed ds
      → find rules call (c ∷ (d ∷ ds)) ≡ find rules listed (c ∷ (d ∷ ds))
  one_more same =
      call_separated c (d ∷ ds) at no_bang
      ∙ (ap (front (One c ∷ [])) (find_to rules is_segment Call d ds segment)
      ∙ (front_front (One c ∷ []) (One d ∷ []) (find rules call ds)
      ∙ (ap (front (One c ∷ (One d ∷ []))) (same ∙ find_then rules (Many further_segment) bang ds)
      ∙ (sym (and_then_front (One c ∷ (One d ∷ [])) (find rules (Many further_segment) ds) (find rules bang))
      ∙ (ap (λ x. and_then (and_then (front (One c ∷ []) x) (find rules (Many further_segment))) (find rules bang))
      (sym (find_sign rules is_segment d ds segment))
      ∙ sym (listed_separated c (d ∷ ds) at no_bang))))))

-- `::` is not `!`
separator_apart : (c : SignClass) → is signs.PathSeparator c ≡ true → is signs.Exclamation c ≡ false
separator_apart c h = ap (is signs.Exclamation) (same_class signs.PathSeparator c h)

-- both find the same
call_same : (cs : List SignClass) → find rules call cs ≡ find rules listed cs
call_same [] = find_lacks rules call [] refl refl ∙ sym (find_lacks rules listed [] refl refl)
call_same (c ∷ []) = go (is signs.PathSeparator c) refl
  where
    go : (b : Bool) → is signs.PathSeparator c ≡ b → find rules call (c ∷ []) ≡ find rules listed (c ∷ [])
    go false h = call_bang c [] h ∙ listed_bang c [] h
    go true h = no_segment c [] h (separator_apart c h) refl
call_same (c ∷ (d ∷ ds)) = go (is signs.PathSeparator c) refl (is_segment d) refl (call_same ds)
  where
    go : (b : Bool) → is signs.PathSeparator c ≡ b → (s : Bool) → is_segment d ≡ s
        → find rules call ds ≡ find rules listed ds
        → find rules call (c ∷ (d ∷ ds)) ≡ find rules listed (c ∷ (d ∷ ds))
    go false h s i r = call_bang c (d ∷ ds) h ∙ listed_bang c (d ∷ ds) h
    go true h true i r = one_more c d ds h (separator_apart c h) i r
    go true h false i r = no_segment c (d ∷ ds) h (separator_apart c h) i

-- ---- what is read after a segment

listed_finds : (trees rest : List TokenTree) → Finds listed trees rest → Finds call trees rest
listed_finds trees rest f =
    record { events = f.events; found = call_same (classes_in trees) ∙ f.found; remains = f.remains }

listed_sticks : (trees left : List TokenTree) → Sticks listed trees left → Sticks call trees left
listed_sticks trees left f = record { stuck = call_same (classes_in trees) ∙ f.stuck; remains = f.remains }

pub call_found : (trees mark named rest : List TokenTree) → Finds (Many further_segment) trees mark
    → Finds (one signs.Exclamation) mark named → Finds call_name named rest
    → Finds call trees rest × (kinds.MacroCall ≡ kinds.MacroCall)
    × Finds (Then (Many further_segment) (one signs.Exclamation)) trees named × Finds call_name named rest
call_found trees mark named rest s m n = (
  listed_finds trees rest
      (then_finds (Many further_segment) bang trees mark rest s
      (then_finds (one signs.Exclamation) call_name mark named rest m n)),
  refl,
  then_finds (Many further_segment) (one signs.Exclamation) trees mark named s m,
  n,
)

pub call_no_name : (trees mark named left : List TokenTree) → Finds (Many further_segment) trees mark
    → Finds (one signs.Exclamation) mark named → Sticks call_name named left
    → Sticks call trees left
call_no_name trees mark named left s m n =
    listed_sticks trees left
    (then_fails (Many further_segment) bang trees mark left s
    (then_fails (one signs.Exclamation) call_name mark named left m n))

pub call_no_mark : (trees mark left : List TokenTree) → Finds (Many further_segment) trees mark
    → Sticks (one signs.Exclamation) mark left
    → Sticks call trees left
call_no_mark trees mark left s m =
    listed_sticks trees left
    (then_fails (Many further_segment) bang trees mark left s
    (then_sticks (one signs.Exclamation) call_name mark left m))

pub call_no_segment : (trees left : List TokenTree) → Sticks (Many further_segment) trees left
    → Sticks call trees left
call_no_segment trees left s = listed_sticks trees left (then_sticks (Many further_segment) bang trees left s)

pub ruleset calls = (call_found, call_no_name, call_no_mark, call_no_segment)

-- ---- whole macro calls

path_found : (trees mid named : List TokenTree) → BeginsPath trees mid
    → Finds (Then (Many further_segment) (one signs.Exclamation)) mid named
    → Finds call_path trees named
path_found trees mid named p f =
    then_finds (perhaps (one signs.PathSeparator)) _ trees p.from_segment named p.separator
    (then_finds (Sign is_segment) (Then (Many further_segment) (one signs.Exclamation)) p.from_segment mid named
    p.segment f)

pub call_reads : (trees mid : List TokenTree) (result : Found) → LeadsTo private_item trees call mid
    → BeginsPath trees mid → ReadsCall mid result
    → ReadsKind private_item trees result
call_reads trees mid (Ok found) l p f = (
  leads_finds private_item call trees mid found.rest.now l f.0,
  keyword_kind call_path trees found.named.now found.kind found.named.now found.rest.now
      (path_found trees mid found.named.now p f.2) (ap keyword_rule f.1) refl
      (subst (λ kind. Finds (named_rule kind) found.named.now found.rest.now) (sym f.1) f.3),
)
call_reads trees mid (Err left) l p f = leads_sticks private_item call trees mid left.now l f

-- ---- after `::`

separator_leads : (trees mid : List TokenTree) → BeginsWith trees signs.PathSeparator mid
    → LeadsTo private_item trees (To is_segment Call) mid
separator_leads trees mid at =
    leads_sign private_item (To is_segment Call) trees mid signs.PathSeparator at refl

pub separated_leads : (trees mid next : List TokenTree) (class : SignClass) (b : Bool)
    → BeginsWith trees signs.PathSeparator mid → BeginsWith mid class next → b ≡ is_segment class → b ≡ true
    → LeadsTo private_item trees call next
separated_leads trees mid next class b at segment e h =
    leads_on private_item (To is_segment Call) call trees mid next (separator_leads trees mid at)
    (to_leads is_segment Call mid next class segment (sym e ∙ h))

pub separated_begins : (trees mid next : List TokenTree) (class : SignClass) (b : Bool)
    → BeginsWith trees signs.PathSeparator mid → BeginsWith mid class next → b ≡ is_segment class → b ≡ true
    → BeginsPath trees next
separated_begins trees mid next class b at segment e h = record {
  from_segment = mid;
  separator = first_finds (one signs.PathSeparator) Nothing trees mid
      (heads_sign (one signs.PathSeparator) trees mid signs.PathSeparator at)
      (sign_finds (is signs.PathSeparator) trees mid signs.PathSeparator at refl);
  segment = sign_finds is_segment mid next class segment (sym e ∙ h);
}

pub separated_not : (trees mid next : List TokenTree) (class : SignClass) (b : Bool)
    → BeginsWith trees signs.PathSeparator mid → BeginsWith mid class next → b ≡ is_segment class → b ≡ false
    → Sticks private_item trees mid
separated_not trees mid next class b at segment e h =
    leads_sticks private_item (To is_segment Call) trees mid mid (separator_leads trees mid at)
    (lacks (To is_segment Call) mid (heads_sign (To is_segment Call) mid next class segment ∙ (sym e ∙ h)) refl)

pub separated_none : (trees mid : List TokenTree) → BeginsWith trees signs.PathSeparator mid → mid ≡ []
    → Sticks private_item trees mid
separated_none trees mid at e =
    leads_sticks private_item (To is_segment Call) trees mid mid (separator_leads trees mid at)
    (lacks (To is_segment Call) mid (heads_none (To is_segment Call) mid e) refl)

pub ruleset call_items = (call_reads, separated_leads, separated_begins, separated_not, separated_none)
