-- Loops over lists of parts with a separator.
use Rattle.std.proofs.Common.{◌≡◌, refl, ◌∙◌, ap, true, false, List, [], ◌∷◌}
use Rattle.std.proofs.lemmas.Bool.{or_left}
use Rattle.grammars.specs.Find.{and_then, find}
use Rattle.grammars.specs.First.{heads}
use Rattle.grammars.specs.Grammar.{Listed, Nothing, Then, further}
use Rattle.grammars.specs.Machine.{is_nullable}
use Rattle.grammars.proofs.WordLemmas.{find_element, find_first, find_then}
use Rattle.pm_stream.specs.declared.stream.TokenTree.{TokenTree}
use Rattle.declarations.specs.Parameter.{LeadsTo}
use Rattle.declarations.specs.Reader.{Finds, Sticks, classes_in}
use Rattle.item_tables.specs.declared.class.SignClass.{SignClass}
use Rattle.declarations.specs.rules.Names.{G}
use Rattle.declarations.specs.rules.Rules.{rules}
use Rattle.declarations.proofs.ReaderLemmas.{heads_then, perhaps_stays}
use Rattle.declarations.proofs.ReaderLemmas.{stays}

-- ---- any list

heads_listed : (a s : G) (cs : List SignClass) → heads (Listed a s) cs ≡ heads a cs
heads_listed a s [] = refl
heads_listed a s (c ∷ cs) = refl

module _ (a s : G) where
  -- a list goes on after one of its parts
  pub element_leads : (trees mid : List TokenTree) → heads a (classes_in trees) ≡ true → Finds a trees mid
      → LeadsTo (Listed a s) trees (further a s) mid
  element_leads trees mid h f = record {
    events = f.events;
    found = find_element rules a s (classes_in trees) h ∙ ap (λ x. and_then x (find rules (further a s))) f.found;
    remains = f.remains;
  }

  pub element_sticks : (trees left : List TokenTree) → heads a (classes_in trees) ≡ true → Sticks a trees left
      → Sticks (Listed a s) trees left
  element_sticks trees left h f = record {
    stuck = find_element rules a s (classes_in trees) h ∙ ap (λ x. and_then x (find rules (further a s))) f.stuck;
    remains = f.remains;
  }

  -- after a separator there is a list again
  pub further_leads : (trees mid : List TokenTree) → heads s (classes_in trees) ≡ true → Finds s trees mid
      → LeadsTo (further a s) trees (Listed a s) mid
  further_leads trees mid h f = record {
    events = f.events;
    found = find_first rules (Then s (Listed a s)) Nothing (classes_in trees)
        (heads_then s (Listed a s) (classes_in trees) ∙ or_left _ _ h)
        ∙ (find_then rules s (Listed a s) (classes_in trees)
        ∙ ap (λ x. and_then x (find rules (Listed a s))) f.found);
    remains = f.remains;
  }

  -- without a separator, nothing goes on
  pub further_ends : (trees : List TokenTree) → heads s (classes_in trees) ≡ false → is_nullable s ≡ false
      → Finds (further a s) trees trees
  further_ends trees h e =
      perhaps_stays (Then s (Listed a s)) trees (heads_then s (Listed a s) (classes_in trees) ∙ rw (h, e) refl)

  -- a list has no part where none can begin
  pub list_ends : (trees : List TokenTree) → heads a (classes_in trees) ≡ false → Finds (Listed a s) trees trees
  list_ends trees h = stays (Listed a s) trees (heads_listed a s (classes_in trees) ∙ h) refl
