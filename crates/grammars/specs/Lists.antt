-- Lists, written without the constructor `Listed`.
use Rattle.grammars.specs.Grammar.{Grammar, Then, Many, perhaps}

-- the grammar `( a ( s a )* s? )?`
abbrev pub list_grammar : {C N L : Type 0} → Grammar C N L → Grammar C N L → Grammar C N L
list_grammar a s = perhaps (Then a (Then (Many (Then s a)) (perhaps s)))
