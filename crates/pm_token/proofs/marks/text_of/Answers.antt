use lib.Utf8
use Rattle.std.proofs.Common.{refl}
use Rattle.pm_token.proofs.marks.text_of.Goals as goal

pub returns-in-126 : goal.returns-in-126
unfolding Utf8.encode
returns-in-126 c = rw c.in-126.is refl

pub returns-in-33 : goal.returns-in-33
unfolding Utf8.encode
returns-in-33 c = rw c.in-33.is refl

pub returns-in-64 : goal.returns-in-64
unfolding Utf8.encode
returns-in-64 c = rw c.in-64.is refl

pub returns-in-35 : goal.returns-in-35
unfolding Utf8.encode
returns-in-35 c = rw c.in-35.is refl

pub returns-in-36 : goal.returns-in-36
unfolding Utf8.encode
returns-in-36 c = rw c.in-36.is refl

pub returns-in-37 : goal.returns-in-37
unfolding Utf8.encode
returns-in-37 c = rw c.in-37.is refl

pub returns-in-94 : goal.returns-in-94
unfolding Utf8.encode
returns-in-94 c = rw c.in-94.is refl

pub returns-in-38 : goal.returns-in-38
unfolding Utf8.encode
returns-in-38 c = rw c.in-38.is refl

pub returns-in-42 : goal.returns-in-42
unfolding Utf8.encode
returns-in-42 c = rw c.in-42.is refl

pub returns-in-45 : goal.returns-in-45
unfolding Utf8.encode
returns-in-45 c = rw c.in-45.is refl

pub returns-in-61 : goal.returns-in-61
unfolding Utf8.encode
returns-in-61 c = rw c.in-61.is refl

pub returns-in-43 : goal.returns-in-43
unfolding Utf8.encode
returns-in-43 c = rw c.in-43.is refl

pub returns-in-124 : goal.returns-in-124
unfolding Utf8.encode
returns-in-124 c = rw c.in-124.is refl

pub returns-in-59 : goal.returns-in-59
unfolding Utf8.encode
returns-in-59 c = rw c.in-59.is refl

pub returns-in-58 : goal.returns-in-58
unfolding Utf8.encode
returns-in-58 c = rw c.in-58.is refl

pub returns-in-44 : goal.returns-in-44
unfolding Utf8.encode
returns-in-44 c = rw c.in-44.is refl

pub returns-in-60 : goal.returns-in-60
unfolding Utf8.encode
returns-in-60 c = rw c.in-60.is refl

pub returns-in-46 : goal.returns-in-46
unfolding Utf8.encode
returns-in-46 c = rw c.in-46.is refl

pub returns-in-62 : goal.returns-in-62
unfolding Utf8.encode
returns-in-62 c = rw c.in-62.is refl

pub returns-in-47 : goal.returns-in-47
unfolding Utf8.encode
returns-in-47 c = rw c.in-47.is refl

pub returns-in-63 : goal.returns-in-63
unfolding Utf8.encode
returns-in-63 c = rw c.in-63.is refl

pub returns-in-39 : goal.returns-in-39
unfolding Utf8.encode
returns-in-39 c = rw c.in-39.is refl
