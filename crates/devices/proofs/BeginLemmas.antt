-- Beginnings of bytes that are written part by part.
use Rattle.std.proofs.Common.{◌≡◌, ◌≢◌, ℕ, List, [], ◌++◌, Option, Result, Ok, Err, sym, ap, ◌∙◌, OnOk}
use Rattle.std.specs.Prelude.{OnErr}
use Rattle.std.specs.Io.KnownBytes.{Appends}
use Rattle.std.proofs.KnownBytes.{Appends-trans}
use Rattle.std.proofs.lemmas.List.{append_assoc, append-nil}
use Rattle.devices.specs.Devices.{TakesBeginning}

-- the whole is a beginning
pub begins_whole : (a b : Option (List ℕ)) (bytes : List ℕ) → Appends a b bytes → TakesBeginning a b bytes
begins_whole a b bytes all = record { sent = bytes; more = []; whole = append-nil bytes; taken = all }

-- a beginning of the first part is one of both
pub begins_first : (a b : Option (List ℕ)) (first second : List ℕ) → TakesBeginning a b first → TakesBeginning a b (first ++ second)
begins_first a b first second h = record {
  sent = h.sent;
  more = h.more ++ second;
  whole = sym (append_assoc h.sent h.more second) ∙ ap (λ l. l ++ second) h.whole;
  taken = h.taken;
}

-- the first part, and a beginning of the second
pub begins_second : (a b c : Option (List ℕ)) (first second : List ℕ) → Appends a b first → TakesBeginning b c second → TakesBeginning a c (first ++ second)
begins_second a b c first second all h = record {
  sent = first ++ h.sent;
  more = h.more;
  whole = append_assoc first h.sent h.more ∙ ap (λ l. first ++ l) h.whole;
  taken = Appends-trans a b c first h.sent all h.taken;
}

-- whether the write failed or not, a beginning went out
pub begins_either : {T E : Type 0} (r : Result T E) (a b : Option (List ℕ)) (bytes : List ℕ) → OnOk r (Appends a b bytes) → OnErr r (TakesBeginning a b bytes) → TakesBeginning a b bytes
begins_either (Ok x) a b bytes all begun = begins_whole a b bytes all
begins_either (Err e) a b bytes all begun = begun

-- without a failure, everything went out
pub whole_unless : {T E : Type 0} (r : Result T E) (a b : Option (List ℕ)) (bytes : List ℕ) (old new : ℕ) → OnOk r (Appends a b bytes) → OnErr r (new ≢ old) → new ≡ old → Appends a b bytes
whole_unless (Ok x) a b bytes old new all failed same = all
whole_unless (Err e) a b bytes old new all failed same = absurd (failed same)

-- what holds in any case holds after an error
pub on_err_always : {T E P : Type 0} (r : Result T E) → P → OnErr r P
on_err_always (Ok x) p = tt
on_err_always (Err e) p = p
