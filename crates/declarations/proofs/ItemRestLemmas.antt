-- What items have after their names, read by rules.
use Rattle.std.proofs.Common.{◌≡◌, refl, sym, ◌∙◌, subst, ◌<◌, length, Bool, true, false, List, [], ◌∷◌}
use Rattle.std.proofs.Common.{arith}
use Rattle.std.specs.Prelude.{Result, Ok, Err}
use Rattle.std.specs.Borrow.{Bor}
use Rattle.grammars.specs.First.{heads, may_begin}
use Rattle.grammars.specs.Grammar.{Either, Mark, Sign, Then, To}
use Rattle.pm_stream.specs.declared.stream.TokenTree.{TokenTree}
use Rattle.declarations.specs.ItemRest.{further_segment, use_end, use_list}
use Rattle.declarations.specs.Parameter.{LeadsTo}
use Rattle.declarations.specs.Reader.{ReadsRule, Sticks, classes_in}
use Rattle.declarations.specs.Signs.{BeginsWith}
use Rattle.item_tables.specs.declared.class.SignClass.{SignClass}
use Rattle.item_tables.specs.declared.class.SignClass.TheVariants as signs
use Rattle.item_tables.specs.Classes.{is}
use Rattle.declarations.specs.rules.Bodies.{name}
use Rattle.declarations.specs.rules.Fronts.{is_segment}
use Rattle.declarations.specs.rules.Items.{use_path, use_segment}
use Rattle.declarations.specs.rules.Names.{G, Label, Name, Use, UsePath, one, word}
use Rattle.declarations.specs.rules.Rules.{rules}
use Rattle.declarations.proofs.ClassLemmas.{same_class}
use Rattle.declarations.proofs.LoopLemmas.{Leads, leads_start}
use Rattle.declarations.proofs.ParameterLemmas.{leads_finds, leads_on, leads_sign, leads_sticks}
use Rattle.declarations.proofs.ReaderLemmas.{first_reads, heads_none, heads_sign, lacks, other_reads}
use Rattle.declarations.proofs.TreeLemmas.{or_nothing}

-- ---- what can begin

-- a part that begins with a label and a sign
marked_heads : (l : Label) (passes : SignClass → Bool) (g : G) (cs : List SignClass)
    → heads (Then (Mark l) (Then (Sign passes) g)) cs ≡ heads {N = Name} {L = Label} (Sign passes) cs
marked_heads l passes g [] = refl
marked_heads l passes g (c ∷ cs) = or_nothing (passes c) (may_begin g c)

-- a name and what follows it
named_heads : (g : G) (cs : List SignClass) → heads (Then name g) cs ≡ heads word cs
named_heads g [] = refl
named_heads g (c ∷ cs) = or_nothing (may_begin word c) (may_begin g c)

further_heads : (cs : List SignClass) → heads further_segment cs ≡ heads (one signs.PathSeparator) cs
further_heads [] = refl
further_heads (c ∷ cs) = or_nothing (is signs.PathSeparator c) (is_segment c)

pub further : (trees : List TokenTree) (b : Bool) → b ≡ heads (one signs.PathSeparator) (classes_in trees)
    → b ≡ heads further_segment (classes_in trees)
further trees b h = h ∙ sym (further_heads (classes_in trees))

-- ---- choices

-- one of two parts, of which the first begins with a label and a sign
module _ (l : Label) (passes : SignClass → Bool) (g other : G) (trees : List TokenTree) (b : Bool)
    (result : Result (Bor (List TokenTree)) (Bor (List TokenTree)))
    (begins : b ≡ heads {N = Name} {L = Label} (Sign passes) (classes_in trees)) where
  pub marked_reads : b ≡ true → ReadsRule (Then (Mark l) (Then (Sign passes) g)) trees result
      → ReadsRule (Either (Then (Mark l) (Then (Sign passes) g)) other) trees result
  marked_reads h f =
      first_reads (Then (Mark l) (Then (Sign passes) g)) other trees result
      (marked_heads l passes g (classes_in trees) ∙ (sym begins ∙ h)) f

  pub unmarked_reads : b ≡ false → ReadsRule other trees result
      → ReadsRule (Either (Then (Mark l) (Then (Sign passes) g)) other) trees result
  unmarked_reads h f =
      other_reads (Then (Mark l) (Then (Sign passes) g)) other trees result
      (marked_heads l passes g (classes_in trees) ∙ (sym begins ∙ h)) refl f

-- a name and what follows it, or another part
module _ (g other : G) (trees : List TokenTree) (b : Bool)
    (result : Result (Bor (List TokenTree)) (Bor (List TokenTree))) (begins : b ≡ heads word (classes_in trees)) where
  pub named_reads : b ≡ true → ReadsRule (Then name g) trees result
      → ReadsRule (Either (Then name g) other) trees result
  named_reads h f =
      first_reads (Then name g) other trees result (named_heads g (classes_in trees) ∙ (sym begins ∙ h)) f

  pub unnamed_reads : b ≡ false → ReadsRule other trees result → ReadsRule (Either (Then name g) other) trees result
  unnamed_reads h f =
      other_reads (Then name g) other trees result (named_heads g (classes_in trees) ∙ (sym begins ∙ h)) refl f

pub ruleset choices = (marked_reads, unmarked_reads, named_reads, unnamed_reads)

-- ---- `::`

pub separator_is : (trees rest : List TokenTree) (class : SignClass) (b : Bool) → BeginsWith trees class rest
    → b ≡ is signs.PathSeparator class → b ≡ true
    → BeginsWith trees signs.PathSeparator rest
separator_is trees rest class b at e h =
    subst (λ c. BeginsWith trees c rest) (same_class signs.PathSeparator class (sym e ∙ h)) at

pub separator_not : (trees rest : List TokenTree) (class : SignClass) (b : Bool) → BeginsWith trees class rest
    → b ≡ is signs.PathSeparator class → b ≡ false
    → heads (one signs.PathSeparator) (classes_in trees) ≡ false
separator_not trees rest class b at e h = heads_sign (one signs.PathSeparator) trees rest class at ∙ (sym e ∙ h)

pub separator_none : (trees : List TokenTree) → trees ≡ [] → heads (one signs.PathSeparator) (classes_in trees) ≡ false
separator_none trees e = heads_none (one signs.PathSeparator) trees e

pub ruleset separators = (separator_is, separator_not, separator_none)

-- ---- imports

-- what a rule finds that goes on as another rule
leads_reads : (g h : G) (trees mid : List TokenTree) (result : Result (Bor (List TokenTree)) (Bor (List TokenTree)))
    → LeadsTo g trees h mid → ReadsRule h mid result
    → ReadsRule g trees result
leads_reads g h trees mid (Ok rest) l f = leads_finds g h trees mid rest.now l f
leads_reads g h trees mid (Err left) l f = leads_sticks g h trees mid left.now l f

-- a segment leads to what may follow it
segment_leads : (trees mid : List TokenTree) (class : SignClass) → BeginsWith trees class mid
    → is_segment class ≡ true
    → LeadsTo use_path trees use_segment mid
segment_leads trees mid class b h = leads_sign use_path use_segment trees mid class b (rw h refl)

pub segment_on : (trees mid next : List TokenTree) (class : SignClass) (b : Bool) → BeginsWith trees class mid
    → b ≡ is_segment class → b ≡ true → BeginsWith mid signs.PathSeparator next
    → LeadsTo use_path trees use_path next
segment_on trees mid next class b at e h separator =
    leads_on use_path use_segment use_path trees mid next (segment_leads trees mid class at (sym e ∙ h))
    (leads_sign use_segment use_path mid next signs.PathSeparator separator refl)

pub segment_fewer : (trees mid next : List TokenTree) (class : SignClass) → BeginsWith trees class mid
    → BeginsWith mid signs.PathSeparator next
    → length next < length trees
segment_fewer trees mid next class at separator =
    let one = at.fewer in
    let two = separator.fewer in
    omega arith

pub segment_ends : (trees mid : List TokenTree) (class : SignClass) (b : Bool)
    (result : Result (Bor (List TokenTree)) (Bor (List TokenTree))) → BeginsWith trees class mid
    → b ≡ is_segment class → b ≡ true → heads (one signs.PathSeparator) (classes_in mid) ≡ false
    → ReadsRule use_end mid result
    → ReadsRule use_path trees result
segment_ends trees mid class b result at e h none f =
    leads_reads use_path use_segment trees mid result (segment_leads trees mid class at (sym e ∙ h))
    (other_reads (To (is signs.PathSeparator) UsePath) use_end mid result (same (classes_in mid) none) refl f)
  where
    same : (cs : List SignClass) → heads (one signs.PathSeparator) cs ≡ false
        → heads {L = Label} (To (is signs.PathSeparator) UsePath) cs ≡ false
    same [] h = refl
    same (c ∷ cs) h = h

pub list_ends : (trees rest : List TokenTree) (class : SignClass) (b : Bool)
    (result : Result (Bor (List TokenTree)) (Bor (List TokenTree))) → BeginsWith trees class rest
    → b ≡ is_segment class → b ≡ false → ReadsRule use_list trees result
    → ReadsRule use_path trees result
list_ends trees rest class b result at e h f =
    other_reads (Then (Sign is_segment) use_segment) use_list trees result
    (heads_sign (Then (Sign is_segment) use_segment) trees rest class at
    ∙ (or_nothing (is_segment class) (may_begin use_segment class) ∙ (sym e ∙ h)))
    refl f

pub no_import : (trees : List TokenTree) → trees ≡ [] → Sticks use_path trees trees
no_import trees e = lacks use_path trees (heads_none use_path trees e) refl

-- after `use` a path may begin with `::`
pub separated_import : (trees mid : List TokenTree) (class : SignClass) (b : Bool)
    (result : Result (Bor (List TokenTree)) (Bor (List TokenTree))) → BeginsWith trees class mid
    → b ≡ is signs.PathSeparator class → b ≡ true → ReadsRule use_path mid result
    → ReadsRule (rules Use) trees result
separated_import trees mid class b result at e h f =
    let separator = separator_is trees mid class b at e h in
    leads_reads (rules Use) use_path trees mid result
    (leads_sign (rules Use) use_path trees mid signs.PathSeparator separator refl) f

pub plain_import : (trees rest : List TokenTree) (class : SignClass) (b : Bool)
    (result : Result (Bor (List TokenTree)) (Bor (List TokenTree))) → BeginsWith trees class rest
    → b ≡ is signs.PathSeparator class → b ≡ false → ReadsRule use_path trees result
    → ReadsRule (rules Use) trees result
plain_import trees rest class b result at e h f =
    other_reads (To (is signs.PathSeparator) UsePath) use_path trees result
    (heads_sign (To (is signs.PathSeparator) UsePath) trees rest class at ∙ (sym e ∙ h)) refl f

pub nothing_used : (trees : List TokenTree) → trees ≡ [] → Sticks (rules Use) trees trees
nothing_used trees e = lacks (rules Use) trees (heads_none (rules Use) trees e) refl

pub ruleset imports = (
  segment_on,
  segment_fewer,
  segment_ends,
  list_ends,
  no_import,
  separated_import,
  plain_import,
  nothing_used,
)

-- ---- the loop over the segments of an import

pub import_start : (trees : List TokenTree) → LeadsTo use_path trees use_path trees
import_start trees = record { events = l.events; found = l.found; remains = l.remains }
  where
    l : Leads use_path trees trees
    l = leads_start use_path trees

pub import_on : (trees mid next : List TokenTree) → LeadsTo use_path trees use_path mid
    → LeadsTo use_path mid use_path next
    → LeadsTo use_path trees use_path next
import_on trees mid next l m = leads_on use_path use_path use_path trees mid next l m

pub import_reads : (trees mid : List TokenTree) (result : Result (Bor (List TokenTree)) (Bor (List TokenTree)))
    → LeadsTo use_path trees use_path mid → ReadsRule use_path mid result
    → ReadsRule use_path trees result
import_reads trees mid result l f = leads_reads use_path use_path trees mid result l f
