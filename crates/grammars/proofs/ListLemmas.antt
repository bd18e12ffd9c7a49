-- `Listed a s` derives the same events as `( a ( s a )* s? )?`.
use Rattle.std.proofs.Common.{◌≡◌, refl, sym, ap, subst, List, [], ◌++◌, append_assoc, append-nil}
use Rattle.grammars.specs.Lists.{list_grammar}
use Rattle.grammars.specs.Grammar.{Grammar, Then, Many, Listed, Event, perhaps}
use Rattle.grammars.specs.Grammar.{Derives, nothing, both, first, second, none, more, empty, last, element}

module _ {C N L : Type 0} (rules : N → Grammar C N L) (a s : Grammar C N L) where
  same : (g : Grammar C N L) (x y : List (Event C L)) → x ≡ y → Derives rules g x → Derives rules g y
  same g x y e d = subst (λ z. Derives rules g z) e d

  longer : (front mid back : List (Event C L)) → Derives rules a front → Derives rules s mid
      → Derives rules (list_grammar a s) back
      → Derives rules (list_grammar a s) (front ++ (mid ++ back))
  longer front mid _ da ds (second nothing) =
      same (list_grammar a s) _ _ (ap (λ x. front ++ x) (sym (append-nil mid))) (first (both da (both none (first ds))))
  longer front mid _ da ds (first (both {front = f} da2 (both {front = m} {back = p} dm dp))) =
      same (list_grammar a s) (front ++ (((mid ++ f) ++ m) ++ p)) (front ++ (mid ++ (f ++ (m ++ p))))
      (rw (append_assoc (mid ++ f) m p, append_assoc mid f (m ++ p)) refl)
      (first (both da (both (more (both ds da2) dm) dp)))

  pub listed_written : (events : List (Event C L)) → Derives rules (Listed a s) events
      → Derives rules (list_grammar a s) events
  listed_written _ empty = second nothing
  listed_written _ (last {events = f} da) =
      same (list_grammar a s) (f ++ ([] ++ [])) f (append-nil f) (first (both da (both none (second nothing))))
  listed_written _ (element {front = f} {mid = m} {back = b} da ds dl) = longer f m b da ds (listed_written b dl)

  join : (front mid back : List (Event C L)) → Derives rules a front → Derives rules (Many (Then s a)) mid
      → Derives rules (perhaps s) back
      → Derives rules (Listed a s) (front ++ (mid ++ back))
  join front _ back da none (first ds) =
      same (Listed a s) _ _ (ap (λ x. front ++ x) (append-nil back)) (element da ds empty)
  join front _ _ da none (second nothing) = same (Listed a s) _ _ (sym (append-nil front)) (last da)
  join front _ back da (more {back = m} (both {front = x} {back = f} ds da2) dm) dp =
      same (Listed a s) (front ++ (x ++ (f ++ (m ++ back)))) (front ++ (((x ++ f) ++ m) ++ back))
      (rw (append_assoc (x ++ f) m back, append_assoc x f (m ++ back)) refl)
      (element da ds (join f m back da2 dm dp))

  pub written_listed : (events : List (Event C L)) → Derives rules (list_grammar a s) events
      → Derives rules (Listed a s) events
  written_listed _ (second nothing) = empty
  written_listed _ (first (both {front = f} da (both {front = m} {back = p} dm dp))) = join f m p da dm dp
