-- the worked examples hold
use Rattle.std.proofs.Common.{◌≡◌, ℕ, List, length, refl, ap, ◌∙◌}
use Rattle.bank.specs.Content.{put_four}
use Rattle.bank.specs.Ranges.{trailing_ones}
use Rattle.bank.specs.Verdicts.{lowest}
use Rattle.monitor.specs.Content.{Content, address, call_after, call_answer, configure, new_bank}
use Rattle.monitor.specs.Examples.{MachineExamples, created, entered, finished, paused, with_slot}
use Rattle.monitor.specs.Laws.{DestroysClear}
use Rattle.monitor.specs.Roll.{apart_below}
use Rattle.monitor.specs.declared.call.Call.TheVariants.{Access, Create, Enter, Finish, Pause}
use Rattle.monitor.specs.declared.slot.Party.TheVariants.{Enclave, Os}
use Rattle.monitor.specs.declared.slot.Slot.TheVariants.{Finished, Fresh, Running, Stopped}
use Rattle.monitor.proofs.Bridge.{destroy_clears}

module _ (bs : List ℕ) (e : length bs ≡ 65536) where
  created_is : created bs ≡ with_slot 0x18 0x1F 1 (Fresh (0x4000, 0x5000)) Os bs
  unfolding address configure new_bank put_four apart_below lowest trailing_ones
  created_is = rw e

  enters : call_after (with_slot 0x18 0x1F 1 (Fresh (0x4000, 0x5000)) Os bs) (Enter 2) ≡ with_slot 0x1F 0 0 (Running (0x4000, 0x5000)) (Enclave 2) bs
  unfolding address configure put_four
  enters = rw e

  pauses : call_after (with_slot 0x1F 0 0 (Running (0x4000, 0x5000)) (Enclave 2) bs) Pause ≡ with_slot 0x18 0x1F 1 (Stopped (0x4000, 0x5000)) Os bs
  unfolding address configure put_four
  pauses = rw e

  entered_is : entered bs ≡ with_slot 0x1F 0 0 (Running (0x4000, 0x5000)) (Enclave 2) bs
  entered_is = ap (λ (m : Content). call_after m (Enter 2)) created_is ∙ enters

  paused_is : paused bs ≡ with_slot 0x18 0x1F 1 (Stopped (0x4000, 0x5000)) Os bs
  paused_is = ap (λ (m : Content). call_after m Pause) entered_is ∙ pauses

  finishes : (w : ℕ)
      → call_after (with_slot 0x1F 0 0 (Running (0x4000, 0x5000)) (Enclave 2) bs) (Finish w) ≡ with_slot 0x18 0x1F 1 (Finished (0x4000, 0x5000)) Os bs
  unfolding address configure put_four
  finishes w = rw e

  finished_is : (w : ℕ) → finished bs w ≡ with_slot 0x18 0x1F 1 (Finished (0x4000, 0x5000)) Os bs
  finished_is w = ap (λ (m : Content). call_after m (Finish w)) entered_is ∙ finishes w

pub machine_examples : MachineExamples
unfolding address configure new_bank put_four apart_below lowest trailing_ones
machine_examples =
    record {
      shortest = refl;
      too_short = refl;
      longest = refl;
      too_long = refl;
      a_page_more = refl;
      half_a_page_more = refl;
      create_done = λ bs e. rw e;
      create_word = λ bs e. rw e;
      create_bytes = λ bs e. rw e;
      misaligned = λ bs e. simp e;
      past_the_end = λ bs e. simp e;
      over_another = λ bs e. simp e;
      at_the_end = λ bs e. simp e;
      last_slot = λ bs e. simp e;
      slot_asked = λ bs e. ap (λ (m : Content). call_answer m (Create 15 0x10001 31)) (entered_is bs e) ∙ rw e;
      system_asked = λ bs e. ap (λ (m : Content). call_answer m (Create 2 0x10001 31)) (entered_is bs e) ∙ rw e;
      free_asked = λ bs e. simp e;
      exponent_asked = λ bs e. simp e;
      alignment_asked = λ bs e. simp e;
      end_asked = λ bs e. simp e;
      kind_asked = λ bs e. simp e;
      size_asked = λ bs e. simp e;
      span_asked = λ bs e. simp e;
      live_asked = λ bs e. simp e;
      unfinished_asked = λ w bs e. ap (λ (m : Content). call_answer m (Enter 2)) (finished_is bs e w) ∙ rw e;
      enclave_asked = λ bs e. simp e;
      privilege_asked = λ bs e. simp e;
      create_leaves = created_is;
      enter_leaves = entered_is;
      pause_leaves = paused_is;
      finish_leaves = λ w bs e. finished_is bs e w;
      finish_answers = λ w bs e. ap (λ (m : Content). call_answer m (Finish w)) (entered_is bs e) ∙ rw e;
      least_read = refl;
      least_put = refl;
      verdict_asked = λ bs e. ap (λ (m : Content). call_answer m (Access 1 0xFFFC 8 0)) (entered_is bs e) ∙ rw e;
      store_past = λ bs e. simp e;
      load_past = λ bs e. simp e;
    }

pub destroys_clear : DestroysClear
destroys_clear = record { clears = destroy_clears }
