-- Each record asks for the call that is written in it.
use Rattle.std.proofs.Common.{◌≡◌, ℕ, ◌<◌, ◌≤◌, ◌≢◌, ◌==◌, if◌then◌else◌, eqb, ltb, List, ◌∷◌, ◌++◌, length, get_or, drop, Some, None, Ok, Err, Option, Result, sym, refl, ap, ap₂, ◌∙◌, subst, arith, drop-cons}
use native.Mathlib.Nat.{mod-add-div}
use Rattle.std.specs.Result.{result_map_both}
use Rattle.std.proofs.lemmas.List.{drop_all}
use Rattle.std.proofs.lemmas.Bool.{cond_both, cond-true, cond-false, eqb-true, eqb-false, ne_eqb, ltb-true, ltb-false, le-ltb, lt-ltb}
use Rattle.logic.specs.Run.{Run}
use Rattle.runs.specs.declared.fault.RunFault.{RunFault}
use Rattle.runs.specs.declared.fault.RunFault.TheVariants.{WrongLength as RunLength, NoRun as RunNumbers}
use Rattle.runs.specs.Bytes.{Bytes, word}
use Rattle.runs.specs.Pulses.{pulse_check, pulse_run}
use Rattle.runs.specs.Tables.{table_check, table_run}
use Rattle.calculus.specs.Pages.{Page}
use Rattle.model.specs.History.{Stage, open_stage, sealed_stage, Call, form, assume, line}
use Rattle.records.specs.declared.fault.PayloadFault.{PayloadFault}
use Rattle.records.specs.declared.fault.PayloadFault.TheVariants.{WrongLength}
use Rattle.records.specs.declared.payload.Form as declared
use Rattle.records.specs.declared.front_record.FrontRecord.{FrontRecord}
use Rattle.records.specs.declared.front_record.FrontRecord.TheVariants.{FormRecord}
use Rattle.records.specs.Payloads.{long, form_in, place_of, Request, form_request, line_written, refutation_written, passed, refute_request, refute_in}
use Rattle.records.specs.WrittenRecords.{two_bytes}
use Rattle.records.proofs.TwoBytes.{byte_at, next_two, word_fits, last_two, four_bytes}
use Rattle.records.specs.Asking.{Asked, front_call, body_call, front_asked, body_asked, FormAsks, form_asked, form_length, FrontAsks, front_form, front_assume, front_seal, front_kind_not_allowed, front_assume_length, front_seal_length, PlaceField, empty_place, place_of_line, RefutationAsks, refutation_asked, numbers_cut, run_length_wrong, run_numbers_wrong, BodyAsks, body_form, body_line, body_table, body_pulses, body_kind_not_allowed, body_line_length, RecordsAsk}

module _ (xs : List ℕ) (bytes : Bytes xs) where
  form_bytes : length xs ≡ 5 → xs ≡ get_or xs 0 0 ∷ (two_bytes (word xs 1) ++ two_bytes (word xs 3))
  form_bytes l =
      drop-cons xs 0 0 (omega arith)
      ∙ ap (λ (ys : List ℕ). get_or xs 0 0 ∷ ys) (next_two xs bytes 1 (omega arith) ∙ ap (λ (ys : List ℕ). two_bytes (word xs 1) ++ ys) (last_two xs bytes 3 l))

  line_bytes : length xs ≡ 8 → xs ≡ two_bytes (word xs 0) ++ (two_bytes (word xs 2) ++ (two_bytes (word xs 4) ++ two_bytes (word xs 6)))
  line_bytes l =
      next_two xs bytes 0 (omega arith)
      ∙ ap (λ (ys : List ℕ). two_bytes (word xs 0) ++ ys) (
      next_two xs bytes 2 (omega arith)
      ∙ ap (λ (ys : List ℕ). two_bytes (word xs 2) ++ ys) (
      next_two xs bytes 4 (omega arith)
      ∙ ap (λ (ys : List ℕ). two_bytes (word xs 4) ++ ys) (last_two xs bytes 6 l)))

-- by a kind's number
by_kind : {A : Type 0} (kind k : ℕ) (P : ℕ → A → Type 0) (x y : A) → P k x → (kind ≢ k → P kind y) → P kind (if kind == k then x else y)
by_kind kind k P x y is other =
    cond_both (eqb kind k) x y (P kind) (λ e. subst (λ (m : ℕ). P m x) (sym (eqb-true kind k e)) is) (λ e. other (eqb-false kind k e))

-- by a payload's length
by_length : {A : Type 0} (n : ℕ) (payload : List ℕ) (x : A) (P : Result A PayloadFault → Type 0) → (length payload ≡ n → P (Ok x)) → (length payload ≢ n → P (Err WrongLength)) → P (long n payload x)
by_length n payload x P is other = cond_both (eqb (length payload) n) _ _ P (λ e. is (eqb-true (length payload) n e)) (λ e. other (eqb-false (length payload) n e))

-- and what is found for a kind or a length that is another one
other_kind : {A : Type 0} {kind k : ℕ} (x y : A) → kind ≢ k → (if kind == k then x else y) ≡ y
other_kind {kind = kind} {k = k} x y other = cond-false _ _ _ (ne_eqb kind k other)

other_length : {A : Type 0} (n : ℕ) (payload : List ℕ) (x : A) → length payload ≢ n → long n payload x ≡ Err WrongLength
other_length n payload x other = cond-false _ _ _ (ne_eqb (length payload) n other)

-- ---- a form record, in a front or a body

module _ {R : Type 0} (s : Stage) (call_of : R → Option (Call s)) (form_of : declared.Form → R) (calls : (f : declared.Form) → call_of (form_of f) ≡ Some (form f.kind f.left f.right)) where
  abbrev asked_of : Result R PayloadFault → Asked s
  asked_of = result_map_both call_of (λ e. e)

  form_asks : (payload : List ℕ) → Bytes payload → FormAsks s payload (asked_of (long 5 payload (form_of (form_in payload))))
  form_asks payload bytes =
      by_length 5 payload (form_of (form_in payload)) (λ r. FormAsks s payload (asked_of r))
      (λ five. subst (λ (o : Option (Call s)). FormAsks s payload (Ok o)) (sym (calls (form_in payload)))
      (subst (λ (p : List ℕ). FormAsks s p (Ok (Some (form (get_or payload 0 0) (word payload 1) (word payload 3))))) (sym (form_bytes payload bytes five))
      (form_asked _ _ _ (byte_at payload bytes 0 (omega arith)) (word_fits payload bytes 1 (omega arith)) (word_fits payload bytes 3 (omega arith)))))
      form_length

  form_found : {payload : List ℕ} {asked : Asked s} → FormAsks s payload asked → asked_of (long 5 payload (form_of (form_in payload))) ≡ asked
  form_found (form_asked kind left right k l r) = ap Ok (calls _ ∙ ap₂ (λ (m n : ℕ). Some (form kind m n)) (mod-add-div left 256) (mod-add-div right 256))
  form_found (form_length {payload} other) = ap asked_of (other_length 5 payload _ other)

-- ---- the front

front_form_found : {payload : List ℕ} {asked : Asked open_stage} → FormAsks open_stage payload asked → front_asked 1 payload ≡ asked
front_form_found = form_found open_stage front_call FormRecord (λ f. refl)

pub front_asks : (kind : ℕ) (payload : List ℕ) → Bytes payload → FrontAsks kind payload (front_asked kind payload)
front_asks kind payload bytes =
    let Asks : ℕ → Result FrontRecord PayloadFault → Type 0 = λ k r. FrontAsks k payload (result_map_both front_call (λ e. e) r) in
    by_kind kind 1 Asks _ _ (front_form (form_asks open_stage front_call FormRecord (λ f. refl) payload bytes)) (λ not_1.
    by_kind kind 2 Asks _ _
    (by_length 2 payload _ (Asks 2)
    (λ two. subst (λ (p : List ℕ). FrontAsks 2 p (Ok (Some (assume (word payload 0))))) (sym (last_two payload bytes 0 two)) (front_assume _ (word_fits payload bytes 0 (omega arith))))
    front_assume_length) (λ not_2.
    by_kind kind 3 Asks _ _
    (by_length 0 payload _ (Asks 3) (λ none. subst (λ (p : List ℕ). FrontAsks 3 p (Ok None)) (sym (drop_all 0 payload (omega arith))) front_seal) front_seal_length)
    (λ not_3. front_kind_not_allowed not_1 not_2 not_3)))

-- what is written is what the program finds
front_found : {kind : ℕ} {payload : List ℕ} {asked : Asked open_stage} → FrontAsks kind payload asked → front_asked kind payload ≡ asked
front_found (front_form asks) = front_form_found asks
front_found (front_assume f l) = ap (λ (g : ℕ). Ok (Some (assume g))) (mod-add-div f 256)
front_found front_seal = refl
front_found (front_kind_not_allowed not_1 not_2 not_3) = ap (result_map_both front_call (λ e. e)) (other_kind _ _ not_1 ∙ other_kind _ _ not_2 ∙ other_kind _ _ not_3)
front_found (front_assume_length {payload} other) = ap (result_map_both front_call (λ e. e)) (other_length 2 payload _ other)
front_found (front_seal_length {payload} other) = ap (result_map_both front_call (λ e. e)) (other_length 0 payload _ other)

-- ---- the body

-- a field gives the place that it stands for
place_given : (n : ℕ) → n < 65536 → PlaceField (place_of n) n
place_given n l =
    cond_both (eqb n 65535) _ _ (λ (p : Option ℕ). PlaceField p n)
    (λ last. subst (PlaceField None) (sym (eqb-true n 65535 last)) empty_place)
    (λ other. let less = eqb-false n 65535 other in place_of_line n (omega arith))

place_found : {p : Option ℕ} {n : ℕ} → PlaceField p n → place_of n ≡ p
place_found empty_place = refl
place_found (place_of_line k l) = cond-false _ _ _ (ne_eqb k 65535 (λ e. omega arith))

module _ (page : Page) (n : ℕ) where
  abbrev answer_for : Result Request PayloadFault → Asked sealed_stage
  answer_for = result_map_both (λ x. Some (body_call page n x)) (λ e. e)

  module _ (check : List ℕ → Result (Unit {0}) RunFault) (run : List ℕ → Run) where
    module _ (payload : List ℕ) (bytes : Bytes payload) where
      refutation_by : 4 ≤ length payload → (q : Result (Unit {0}) RunFault) → check (drop 4 payload) ≡ q
          → RefutationAsks check run n (two_bytes (word payload 0) ++ (two_bytes (word payload 2) ++ drop 4 payload)) (answer_for (passed q (refute_request (refutation_written payload) (run (drop 4 payload)))))
      refutation_by long (Ok done) is = refutation_asked _ _ _ (word_fits payload bytes 0 (omega arith)) (word_fits payload bytes 2 (omega arith)) is
      refutation_by long (Err RunLength) is = run_length_wrong _ _ _ (word_fits payload bytes 0 (omega arith)) (word_fits payload bytes 2 (omega arith)) is
      refutation_by long (Err RunNumbers) is = run_numbers_wrong _ _ _ (word_fits payload bytes 0 (omega arith)) (word_fits payload bytes 2 (omega arith)) is

      refutation_asks : RefutationAsks check run n payload (answer_for (refute_in check run payload))
      refutation_asks =
          cond_both (ltb (length payload) 4) _ _ (λ r. RefutationAsks check run n payload (answer_for r))
          (λ short. numbers_cut (ltb-true (length payload) 4 short))
          (λ room.
          let long = ltb-false (length payload) 4 room in
          subst (λ (p : List ℕ). RefutationAsks check run n p (answer_for (passed (check (drop 4 payload)) (refute_request (refutation_written payload) (run (drop 4 payload))))))
          (sym (four_bytes payload bytes long)) (refutation_by long (check (drop 4 payload)) refl))

    -- after the two numbers, the run's check decides
    refutation_of : (f i : ℕ) (bytes : List ℕ) (q : Result (Unit {0}) RunFault) → check bytes ≡ q
        → answer_for (refute_in check run (two_bytes f ++ (two_bytes i ++ bytes))) ≡ answer_for (passed q (refute_request (record { formula = f; position = i }) (run bytes)))
    refutation_of f i bytes q is =
        let payload = two_bytes f ++ (two_bytes i ++ bytes) in
        ap answer_for (
        cond-false _ _ _ (le-ltb (length payload) 4 (omega arith))
        ∙ ap (λ x. passed x (refute_request (refutation_written payload) (run bytes))) is
        ∙ ap₂ (λ (g j : ℕ). passed q (refute_request (record { formula = g; position = j }) (run bytes))) (mod-add-div f 256) (mod-add-div i 256))

    refutation_found : {payload : List ℕ} {asked : Asked sealed_stage} → RefutationAsks check run n payload asked → answer_for (refute_in check run payload) ≡ asked
    refutation_found (refutation_asked f i bytes f_in i_in passes) = refutation_of f i bytes (Ok tt) passes
    refutation_found (numbers_cut {payload} short) = ap answer_for (cond-true _ _ _ (lt-ltb (length payload) 4 short))
    refutation_found (run_length_wrong f i bytes f_in i_in fails) = refutation_of f i bytes (Err RunLength) fails
    refutation_found (run_numbers_wrong f i bytes f_in i_in fails) = refutation_of f i bytes (Err RunNumbers) fails

  abbrev request_call : Request → Option (Call sealed_stage)
  request_call x = Some (body_call page n x)

  pub body_asks : (kind : ℕ) (payload : List ℕ) → Bytes payload → BodyAsks page n kind payload (body_asked page n kind payload)
  body_asks kind payload bytes =
      let Asks : ℕ → Result Request PayloadFault → Type 0 = λ k r. BodyAsks page n k payload (answer_for r) in
      by_kind kind 1 Asks _ _ (body_form (form_asks sealed_stage request_call form_request (λ f. refl) payload bytes)) (λ not_1.
      by_kind kind 4 Asks _ _
      (by_length 8 payload _ (Asks 4)
      (λ eight.
      let first = word_fits payload bytes 4 (omega arith) in
      let second = word_fits payload bytes 6 (omega arith) in
      subst (λ (p : List ℕ). BodyAsks page n 4 p (Ok (Some (line page (line_written payload))))) (sym (line_bytes payload bytes eight))
      (body_line _ _ _ _ _ _ (word_fits payload bytes 0 (omega arith)) (word_fits payload bytes 2 (omega arith)) first second (place_given _ first) (place_given _ second)))
      body_line_length) (λ not_4.
      by_kind kind 5 Asks _ _ (body_table (refutation_asks table_check table_run payload bytes)) (λ not_5.
      by_kind kind 6 Asks _ _ (body_pulses (refutation_asks pulse_check pulse_run payload bytes)) (λ not_6. body_kind_not_allowed not_1 not_4 not_5 not_6))))

  abbrev line_call : ℕ → ℕ → Option ℕ → Option ℕ → Asked sealed_stage
  line_call rule formula first second = Ok (Some (line page (record { rule = rule; formula = formula; first = first; second = second })))

  body_found : {kind : ℕ} {payload : List ℕ} {asked : Asked sealed_stage} → BodyAsks page n kind payload asked → body_asked page n kind payload ≡ asked
  body_found (body_form asks) = form_found sealed_stage request_call form_request (λ f. refl) asks
  body_found (body_line rule formula p q first second rule_in formula_in p_in q_in first_is second_is) =
      ap₂ (λ (x y : ℕ). line_call x y (place_of (word (two_bytes p) 0)) (place_of (word (two_bytes q) 0))) (mod-add-div rule 256) (mod-add-div formula 256)
      ∙ ap₂ (line_call rule formula) (ap place_of (mod-add-div p 256) ∙ place_found first_is) (ap place_of (mod-add-div q 256) ∙ place_found second_is)
  body_found (body_table asks) = refutation_found table_check table_run asks
  body_found (body_pulses asks) = refutation_found pulse_check pulse_run asks
  body_found (body_kind_not_allowed not_1 not_4 not_5 not_6) = ap answer_for (other_kind _ _ not_1 ∙ other_kind _ _ not_4 ∙ other_kind _ _ not_5 ∙ other_kind _ _ not_6)
  body_found (body_line_length {payload} other) = ap answer_for (other_length 8 payload _ other)

pub records_ask : RecordsAsk
records_ask = record {
  front = λ kind payload bytes asked. (λ is. subst (FrontAsks kind payload) is (front_asks kind payload bytes), front_found);
  body = λ page n kind payload bytes asked. (λ is. subst (BodyAsks page n kind payload) is (body_asks page n kind payload bytes), body_found page n);
}
