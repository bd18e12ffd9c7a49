-- A search for a byte finds where a run ends.
use Rattle.std.proofs.Common.{◌≡◌, ℕ, zero, suc, ◌+◌, ◌<◌, ◌≤◌, Bool, true, false, not, ◌&&◌, inl, inr, List, [], ◌∷◌}
use Rattle.std.proofs.Common.{length, Some, None, Option, unwrap_or, take, drop, refl, subst, sym, ap, ◌∙◌, arith}
use Rattle.std.specs.Char.{is_ascii}
use Rattle.std.specs.Str.{chars, IsAscii, IsUtf8, IsCharBoundary}
use Rattle.std.proofs.lemmas.Bool.{cases_Bool, cond-true, cond-false, false_from_ne_true, lt-ltb, not_from_true}
use Rattle.std.proofs.lemmas.Bool.{not_from_false}
use Rattle.memchr.specs.Find.{IsFirstByte, is_byte3}
use Rattle.memchr.specs.Find as bytes
use Rattle.lexical.specs.Finder.{while_front, while_rest}
use Rattle.lexical.specs.Quoted.{is_plain}
use Rattle.lexical.specs.RawString.{may_stand_raw}
use Rattle.lexical.specs.Rule.{Run}
use Rattle.lexical.specs.RuleMatch.{Passes}
use Rattle.lexical.specs.declared.cursor.TextCursor.{TextCursor}
use Rattle.lexical.specs.declared.quoted.StringKind.{StringKind}
use Rattle.lexical.specs.declared.quoted.StringKind.TheVariants as kinds
use Rattle.lexical.proofs.Scan.{run_boundary, run_over, run_rest}

module _ (test : ℕ → Bool) where
  -- the run has k bytes, if the byte at k is the first that passes or the bytes end there
  run_to : (bs : List ℕ) (k : ℕ) → k ≤ length bs → ((i : ℕ) → i < k → bytes.Passes test bs i → ⊥)
      → (k < length bs → bytes.Passes test bs k) → length (while_front (λ b. not (test b)) bs) ≡ k
  run_to [] k within none hit = omega arith
  run_to (b ∷ bs) zero within none hit = ap length (cond-false _ _ _ (not_from_true _ (hit (omega arith))))
  run_to (b ∷ bs) (suc k) within none hit =
      ap length (cond-true _ _ _ (not_from_false _ (false_from_ne_true _ (none 0 (omega arith)))))
      ∙ ap suc (run_to bs k (omega arith) (λ i before at. none (suc i) (omega arith) at) (λ more. hit (omega arith)))

  -- the run ends where the search found a byte, or at the end
  pub found_end : (bs : List ℕ) (r : Option ℕ) → IsFirstByte test bs r
      → length (while_front (λ b. not (test b)) bs) ≡ unwrap_or r (length bs)
  found_end bs None none =
      run_to bs (length bs) (omega arith) (λ k within hit. none k (omega arith) within hit)
      (λ more. absurd (omega arith))
  found_end bs (Some k) h =
      run_to bs k (omega (arith, h.0.high)) (λ i before hit. h.0.before i (omega arith) before hit) (λ more. h.1)

  -- the cursor where the search ends is the cursor after the run
  pub found_run : ((c : ℕ) → 128 ≤ c → test c ≡ false) → (at to : TextCursor) (bs : List ℕ) (r : Option ℕ) (n : ℕ)
      → IsUtf8 bs → bs ≡ at.rest.now
      → IsFirstByte test bs r → n ≡ unwrap_or r (length bs) → to.rest.now ≡ drop n at.rest.now
      → to.chars_before ≡ at.chars_before + length (chars (take n at.rest.now)) → Passes (Run (λ c. not (test c))) at to
  found_run past at to bs r n utf8 same found e rest count =
      run_over (λ c. not (test c)) true (λ c high. not_from_false _ (past c high)) at to (subst IsUtf8 same utf8) n
      (e ∙ (sym (found_end bs r found) ∙ ap (λ x. length (while_front (λ c. not (test c)) x)) same)) rest count

  -- the search ends between two characters, and the text from there on is the text after the run
  pub found_rest : ((c : ℕ) → 128 ≤ c → test c ≡ false) → (text bs : List ℕ) (r : Option ℕ) (n : ℕ)
      → IsUtf8 text → bs ≡ text → IsFirstByte test bs r → n ≡ unwrap_or r (length bs)
      → IsCharBoundary text n × (chars (drop n text) ≡ while_rest (λ c. not (test c)) (chars text))
  found_rest past text bs r n utf8 same found e =
      let other : ℕ → Bool = λ c. not (test c) in
      let high : (c : ℕ) → 128 ≤ c → other c ≡ true = λ c h. not_from_false _ (past c h) in
      let size : n ≡ length (while_front other text) =
      e ∙ (sym (found_end bs r found) ∙ ap (λ x. length (while_front other x)) same) in
      (run_boundary other true high text utf8 n size, run_rest other true high text utf8 n size)

-- bytes that are checked after the search: `both` passes what is allowed and does not end the run
module _ (test allowed both : ℕ → Bool) (same : (c : ℕ) → both c ≡ (allowed c && not (test c))) where
  -- the allowed bytes within the run are the run of `both`
  count_both : (bs : List ℕ)
      → length (while_front allowed (take (length (while_front (λ b. not (test b)) bs)) bs))
      ≡ length (while_front both bs)
  count_both [] = refl
  count_both (b ∷ bs) = elim (cases_Bool (test b)) [
    | inl stops ↦ grind (arith, same b, stops)
    | inr goes ↦ elim (cases_Bool (allowed b)) [
      | inl may ↦ rw (same b, goes, may) (ap suc (count_both bs))
      | inr bars ↦ rw (same b, goes, bars) refl
    ]
  ]

  module _ (past : (c : ℕ) → 128 ≤ c → test c ≡ false) (beyond : Bool) (high : (c : ℕ) → 128 ≤ c → allowed c ≡ beyond)
      (at : TextCursor) (bs : List ℕ) (r : Option ℕ) (m n : ℕ) (utf8 : IsUtf8 bs) (whole : bs ≡ at.rest.now)
      (found : IsFirstByte test bs r) (end : m ≡ unwrap_or r (length bs))
      (is_length : n ≡ length (while_front allowed (take m bs))) where
    both_high : (c : ℕ) → 128 ≤ c → both c ≡ beyond
    both_high c h = grind (arith, same c, past c h, high c h)

    size : n ≡ length (while_front both at.rest.now)
    size =
        is_length ∙ (ap (λ k. length (while_front allowed (take k bs))) (end ∙ sym (found_end test bs r found))
        ∙ (count_both bs ∙ ap (λ x. length (while_front both x)) whole))

    pub allowed_boundary : IsCharBoundary at.rest.now n
    allowed_boundary = run_boundary both beyond both_high at.rest.now (subst IsUtf8 whole utf8) n size

    pub allowed_run : (to : TextCursor) → to.rest.now ≡ drop n at.rest.now
        → to.chars_before ≡ at.chars_before + length (chars (take n at.rest.now)) → Passes (Run both) at to
    allowed_run to rest count = run_over both beyond both_high at to (subst IsUtf8 whole utf8) n size rest count

-- a string may contain either all characters past ASCII or none
pub raw_past : (kind : StringKind) (c : ℕ) → 128 ≤ c → may_stand_raw kind c ≡ may_stand_raw kind 128
raw_past kinds.Plain c h = refl
raw_past kinds.Byte c h = grind arith
raw_past kinds.C c h = grind arith

-- ---- the characters that a string may contain, among bytes

-- a string with nothing forbidden may contain all the bytes
pub allowed_plain : (bs : List ℕ) → length bs ≡ length (while_front (may_stand_raw kinds.Plain) bs)
allowed_plain [] = refl
allowed_plain (b ∷ bs) = ap suc (allowed_plain bs)

-- a byte string may contain all the bytes, if they are ASCII
pub allowed_ascii : (bs : List ℕ) → IsAscii bs → length bs ≡ length (while_front is_ascii bs)
allowed_ascii [] low = refl
allowed_ascii (b ∷ bs) low =
    ap suc (allowed_ascii bs (λ i. low (suc i))) ∙ sym (ap length (cond-true _ _ _ (lt-ltb b 128 (low 0))))

-- a character needs no escape, if the string may contain it and the search does not end at it
pub plain_allowed : (kind : StringKind) (c : ℕ) → is_plain kind c ≡ (may_stand_raw kind c && not (is_byte3 34 92 13 c))
plain_allowed kinds.Plain c = grind arith
plain_allowed kinds.Byte c = grind arith
plain_allowed kinds.C c = grind arith
