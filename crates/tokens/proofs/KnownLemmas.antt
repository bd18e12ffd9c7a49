-- Lemmas about calls one after another.
use Rattle.std.proofs.Common.{◌≡◌, ℕ, ◌+◌, List, ◌++◌, ◌-◌, length, take, drop, sym, ap, ◌∙◌, subst, append_assoc}
use Rattle.std.proofs.Common.{take-append-drop}
use Rattle.std.proofs.Math.Seq.{take-add}
use Rattle.std.proofs.lemmas.List.{take_rest}
use Rattle.std.specs.Prelude.{Option}
use Rattle.std.specs.Io.KnownBytes.{Appends, Consumes}
use Rattle.std.proofs.KnownBytes.{Appends-trans, Consumes-trans}
use Rattle.tokens.specs.Known.{AppendsFront}

-- the first `f` items were read first, and `n` more after them
pub Consumes-filled : (a b c : Option (List ℕ)) (old new : List ℕ) (f n : ℕ) → take f new ≡ take f old
    → Consumes a b (take f old) → Consumes b c (take n (drop f new)) → Consumes a c (take (f + n) new)
Consumes-filled a b c old new f n same before read =
    let whole : take f old ++ take n (drop f new) ≡ take (f + n) new = ap (λ l. l ++ take n (drop f new)) (sym same)
    ∙ sym (take-add f n new) in
    subst (Consumes a c) whole (Consumes-trans a b c _ _ before read)

-- the bytes that a write took are cut off the rest, in the way that the code cuts them
pub whole_moves : (all front rest : List ℕ) (n : ℕ) → all ≡ front ++ rest
    → all ≡ (front ++ take n rest) ++ take (length rest - n) (drop n rest)
whole_moves all front rest n whole =
    whole ∙ ap (λ l. front ++ l) (sym (take-append-drop n rest)) ∙ sym (append_assoc front (take n rest) (drop n rest))
    ∙ ap (λ l. (front ++ take n rest) ++ l) (sym (take_rest rest n))

-- if a prefix of some bytes was appended, so was a prefix of more bytes
pub AppendsFront-more : (a b : Option (List ℕ)) (xs ys : List ℕ) → AppendsFront a b xs → AppendsFront a b (xs ++ ys)
AppendsFront-more a b xs ys h =
    record {
      front = h.front;
      back = h.back ++ ys;
      whole = ap (λ l. l ++ ys) h.whole
          ∙ append_assoc h.front h.back ys;
      appends = h.appends;
    }

-- some bytes and then a prefix of others are a prefix of both
pub AppendsFront-after : (a b c : Option (List ℕ)) (xs ys : List ℕ) → Appends a b xs → AppendsFront b c ys
    → AppendsFront a c (xs ++ ys)
AppendsFront-after a b c xs ys first h =
    record {
      front = xs ++ h.front;
      back = h.back;
      whole = ap (λ l. xs ++ l) h.whole ∙ sym (append_assoc xs h.front h.back);
      appends = Appends-trans a b c xs h.front first h.appends;
    }

-- a piece at the start of the rest is moved to the end of the part before it
pub front_grows : (all front rest piece after : List ℕ) → all ≡ front ++ rest → rest ≡ piece ++ after
    → all ≡ (front ++ piece) ++ after
front_grows all front rest piece after whole cut =
    whole ∙ ap (λ l. front ++ l) cut ∙ sym (append_assoc front piece after)

-- if a prefix of the next piece is written, a prefix of the whole is
pub AppendsFront-piece : (a b c : Option (List ℕ)) (all front rest piece after : List ℕ) → all ≡ front ++ rest
    → rest ≡ piece ++ after → Appends a b front → AppendsFront b c piece → AppendsFront a c all
AppendsFront-piece a b c all front rest piece after whole cut first h =
    subst (AppendsFront a c) (sym (whole ∙ ap (λ l. front ++ l) cut))
    (AppendsFront-after a b c front (piece ++ after) first (AppendsFront-more b c piece after h))
