-- Where a turbofish follows a name, and where none does.
use Rattle.std.proofs.Common.{◌≡◌, ℕ, ◌==◌, Bool, true, false, ◌&&◌, ◌||◌}
use Rattle.std.proofs.Common.{Option, Some, None, refl, ap, ap₂, ◌∙◌}
use Rattle.std.proofs.Common.{if◌then◌else◌, is_some, eqb-true}
use Rattle.lexical.specs.Token.{Token, Name, Mark, Literal}
use Rattle.pm_stream.specs.Forest.{Forest, nil, leaf, group}
use Rattle.token_buffer.specs.Arguments.{after_arguments, after_turbofish, past_colon, is_joint_colon}
use Rattle.token_buffer.specs.Arguments.{is_token_mark, past_arguments}
use Rattle.token_buffer.specs.Reads.{group_first}
use Rattle.find_calls.specs.Calls.{has_arguments_there, is_called}
use Rattle.find_calls.specs.Opened.{inside_angle, inside_colon}
use Rattle.find_calls.specs.Opened.{inside_turbofish, is_called_at_once}

-- ---- what follows a name

-- the trees after a name begin with `::<`, and then come the others
pub record Turbofish (f g : Forest) : Type 0 where
  pub l1 : ℕ
  pub h1 : ℕ
  pub j2 : Bool
  pub l2 : ℕ
  pub h2 : ℕ
  pub j3 : Bool
  pub l3 : ℕ
  pub h3 : ℕ
  pub is : f ≡ leaf (Mark 58 true) l1 h1 (leaf (Mark 58 j2) l2 h2 (leaf (Mark 60 j3) l3 h3 g))

if_some : {A : Type 0} (is : Bool) (x : Option A) (y : A) → (if is then x else None) ≡ Some y
    → (is ≡ true) × (x ≡ Some y)
if_some true x y h = (refl, h)
if_some false x y h = absurd (cc)

pub and_true : (x y : Bool) → (x && y) ≡ true → (x ≡ true) × (y ≡ true)
and_true true y h = (refl, h)
and_true false y h = absurd (cc)

pub mark_is : (m : ℕ) (token : Token) → is_token_mark m token ≡ true → (joint : Bool) × (token ≡ Mark m joint)
mark_is m (Name raw text) h = absurd (cc)
mark_is m (Mark c joint) h = (joint, ap (λ n. Mark n joint) (eqb-true c m h))
mark_is m (Literal text) h = absurd (cc)

joint_colon_is : (token : Token) → is_joint_colon token ≡ true → token ≡ Mark 58 true
joint_colon_is (Name raw text) h = absurd (cc)
joint_colon_is (Mark c joint) h =
    let both = and_true (c == 58) joint h in ap₂ Mark (eqb-true c 58 both.0) both.1
joint_colon_is (Literal text) h = absurd (cc)

angle_is : (f g : Forest) → inside_angle f ≡ Some g
    → (j : Bool) × (lo : ℕ) × (hi : ℕ) × (f ≡ leaf (Mark 60 j) lo hi g)
angle_is nil g h = absurd (cc)
angle_is (group d lo hi k rest) g h = absurd (cc)
angle_is (leaf token lo hi rest) g h =
    let both = if_some (is_token_mark 60 token) (Some rest) g h in
    let mark = mark_is 60 token both.0 in
    let same : rest ≡ g = let some = both.1 in cc in
    (mark.0, lo, hi, ap₂ (λ t f. leaf t lo hi f) mark.1 same)

colon_is : (f g : Forest) → inside_colon f ≡ Some g
    → (j : Bool) × (lo : ℕ) × (hi : ℕ) × (k : Forest) × (f ≡ leaf (Mark 58 j) lo hi k) × (inside_angle k ≡ Some g)
colon_is nil g h = absurd (cc)
colon_is (group d lo hi k rest) g h = absurd (cc)
colon_is (leaf token lo hi rest) g h =
    let both = if_some (is_token_mark 58 token) (inside_angle rest) g h in
    let mark = mark_is 58 token both.0 in
    (mark.0, lo, hi, rest, ap (λ t. leaf t lo hi rest) mark.1, both.1)

pub turbofish_is : (f g : Forest) → inside_turbofish f ≡ Some g → Turbofish f g
turbofish_is nil g h = absurd (cc)
turbofish_is (group d lo hi k rest) g h = absurd (cc)
turbofish_is (leaf token lo hi rest) g h =
    let both = if_some (is_joint_colon token) (inside_colon rest) g h in
    let colon = colon_is rest g both.1 in
    let angle = angle_is colon.3 g colon.5 in
    record {
      l1 = lo;
      h1 = hi;
      j2 = colon.0;
      l2 = colon.1;
      h2 = colon.2;
      j3 = angle.0;
      l3 = angle.1;
      h3 = angle.2;
      is = ap₂ (λ t f. leaf t lo hi f) (joint_colon_is token both.0)
          (colon.4 ∙ ap (leaf (Mark 58 colon.0) colon.1 colon.2) angle.3);
    }

-- where no `::<` comes first, no turbofish does
if_none : {A B : Type 0} (is : Bool) (x : Option A) (y : Option B) → (x ≡ None → y ≡ None)
    → (if is then x else None) ≡ None → (if is then y else None) ≡ None
if_none true x y f h = f h
if_none false x y f h = refl

no_angle : (f : Forest) → inside_angle f ≡ None → after_arguments f ≡ None
no_angle nil h = refl
no_angle (group d lo hi k rest) h = refl
no_angle (leaf token lo hi rest) h =
    if_none (is_token_mark 60 token) (Some rest) (past_arguments 0 false rest)
    (λ (is : Some rest ≡ None). absurd (cc)) h

no_colon : (f : Forest) → inside_colon f ≡ None → past_colon f ≡ None
no_colon nil h = refl
no_colon (group d lo hi k rest) h = refl
no_colon (leaf token lo hi rest) h =
    if_none (is_token_mark 58 token) (inside_angle rest) (after_arguments rest) (no_angle rest) h

no_turbofish : (f : Forest) → inside_turbofish f ≡ None → after_turbofish f ≡ None
no_turbofish nil h = refl
no_turbofish (group d lo hi k rest) h = refl
no_turbofish (leaf token lo hi rest) h =
    if_none (is_joint_colon token) (inside_colon rest) (past_colon rest) (no_colon rest) h

or_none : (is : Bool) → (is || false) ≡ is
or_none true = refl
or_none false = refl

pub called_at_once : (f : Forest) → inside_turbofish f ≡ None → is_called f ≡ is_called_at_once f
called_at_once nil h = refl
called_at_once (group d lo hi k rest) h = refl
called_at_once (leaf token lo hi rest) h =
    ap (λ end. (is_token_mark 33 token && is_some (group_first rest)) || has_arguments_there end)
    (no_turbofish (leaf token lo hi rest) h)
    ∙ or_none (is_token_mark 33 token && is_some (group_first rest))

pub and_false2 : (x y : Bool) → (x && (y && false)) ≡ false
and_false2 true true = refl
and_false2 true false = refl
and_false2 false y = refl

pub and_false : (x : Bool) → (x && false) ≡ false
and_false true = refl
and_false false = refl
