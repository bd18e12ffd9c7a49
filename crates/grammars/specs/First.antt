-- First sets: the signs with which a grammar may begin.
use Rattle.std.specs.Prelude.{Bool, false, ◌&&◌, ◌||◌, List, [], ◌∷◌}
use Rattle.grammars.specs.Grammar.{Grammar, Nothing, Sign, To, Mark, Then, Either, Many, Listed}
use Rattle.grammars.specs.Machine.{is_nullable}

-- whether something that the grammar derives begins with this sign
abbrev pub may_begin : {C N L : Type 0} → Grammar C N L → C → Bool
may_begin Nothing c = false
may_begin (Sign passes) c = passes c
may_begin (To passes n) c = passes c
may_begin (Mark l) c = false
may_begin (Then a b) c = may_begin a c || is_nullable a && may_begin b c
may_begin (Either a b) c = may_begin a c || may_begin b c
may_begin (Many a) c = may_begin a c
may_begin (Listed a s) c = may_begin a c

-- whether the grammar and what follows it may begin with this sign
abbrev pub begins : {C N L : Type 0} → Grammar C N L → (C → Bool) → C → Bool
begins g follow c = may_begin g c || is_nullable g && follow c

-- whether the stack of grammars may begin with this sign
abbrev pub starts : {C N L : Type 0} → List (Grammar C N L) → C → Bool
starts [] c = false
starts (g ∷ k) c = begins g (starts k) c

-- whether the grammar may begin with the first of these signs
abbrev pub heads : {C N L : Type 0} → Grammar C N L → List C → Bool
heads g [] = false
heads g (c ∷ signs) = may_begin g c
