-- The examples compute.
use Rattle.std.proofs.Common.{refl}
use Rattle.lent_bytes.specs.Memory.{portion, rest, clip}
use Rattle.values.specs.Format.{elements_in, elements_past}
use Rattle.blocks.specs.Projections.{of_list, owning}
use Rattle.draft_law.specs.Law.{ErrorOkErrorIsOk}
use Rattle.conversion.specs.Spans.{found}
use Rattle.conversion.specs.Singles.{with_single}
use Rattle.conversion.specs.Steps.{put, key_arena, put_meta, put_again, put_metric, put_given, put_sampling, own_meta, each, own_texts, or_single, first_error, span_kind, derived_texts, status_code, measured, six_own, put_text, put_number, resource_row, span_row, scope_row, trace_id, version, env, links, has_exception, trace_state, scope, status, exception, message, last_error, minimal_from, of_resource_and_scope, of_span, end_texts, at_the_end, by_status, with_error, said_message, other_message, code_message, exception_texts, put_found, steps_from}
use Rattle.conversion_law.specs.Examples.{WorkedExamples}

pub worked_examples_lem : ErrorOkErrorIsOk → WorkedExamples
unfolding put key_arena put_meta put_again put_metric put_given put_sampling own_meta each with_single own_texts or_single first_error span_kind derived_texts status_code measured six_own put_text put_number resource_row span_row scope_row trace_id version env links has_exception trace_state scope status exception message last_error minimal_from of_resource_and_scope of_span end_texts at_the_end by_status with_error said_message other_message code_message exception_texts put_found steps_from found portion rest clip of_list owning elements_in elements_past lib.Ieee.to_bits lib.Ieee.of_int
worked_examples_lem ok =
    record {
      queried_name = refl;
      queried_type = refl;
      served_name = refl;
      served_resource = refl;
      served_type = refl;
      flashed_resource = refl;
      no_texts = refl;
      all_texts = refl;
      metric = refl;
      array = refl;
      array_shown = refl;
      array_read = refl;
      microsoft_type = refl;
      microsoft_later_type = refl;
      microsoft_later_name = refl;
      error_ok_error = ok;
    }
