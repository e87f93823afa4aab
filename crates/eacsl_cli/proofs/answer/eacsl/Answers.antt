use Rattle.std.proofs.Common.{◌≡◌, refl, map, Some, None, ◌∙◌, string_bytes}
use Rattle.c_model.specs.Words.{job_of}
use Rattle.eacsl_cli.proofs.Jobs.{memory_said, usage_said, missing_said, too_long_said, fault_said, file_answered}
use Rattle.eacsl_cli.proofs.Completeness.{complete}
use Rattle.eacsl_cli.proofs.Sources.{unasked, unasked_leaves, leaves_by, has_job}
use Rattle.eacsl_cli.proofs.Statuses.{answered_status}
use Rattle.eacsl_cli.proofs.Faults.{fault_shown}
use Rattle.eacsl_cli.proofs.answer.eacsl.Goals as goal

pub returns-in-Ok-None-clause-answered : goal.returns-in-Ok-None-clause-answered
returns-in-Ok-None-clause-answered g c =
    let e : None ≡ job_of (map string_bytes c.args.words.items) = rw (c.in-Ok-None.field-0-is, c.deref.ensures.value) at c.in-Ok-None.ensures in
    usage_said e refl unasked c.say.ensures

pub returns-in-Err-clause-answered : goal.returns-in-Err-clause-answered
returns-in-Err-clause-answered g c = memory_said unasked c.out_of_memory.ensures

pub returns-in-Ok-clause-answered : goal.returns-in-Ok-clause-answered
returns-in-Ok-clause-answered g c =
    let e : Some c.in-Ok-Some.job ≡ job_of (map string_bytes c.args.words.items) = rw (c.in-Ok-Some.field-0-is, c.deref.ensures.value) at c.in-Ok-Some.ensures in
    file_answered c.in-Ok-Some.job c.text.result.now c.in-Ok.text.items c.deref-in-Ok.result.now c.limit_of.result e (c.text.ensures ∙ c.file_name.ensures) c.limit_of.ensures c.deref-in-Ok.ensures.value c.in-Ok.ensures.bytes c.in-Ok.ensures.count
    c.do_job.ensures.answered

pub returns-in-Err-Missing-clause-answered : goal.returns-in-Err-Missing-clause-answered
returns-in-Err-Missing-clause-answered g c =
    let e : Some c.in-Ok-Some.job ≡ job_of (map string_bytes c.args.words.items) = rw (c.in-Ok-Some.field-0-is, c.deref.ensures.value) at c.in-Ok-Some.ensures in
    missing_said c.in-Ok-Some.job c.text.result.now c.limit_of.result e (c.text.ensures ∙ c.file_name.ensures) c.limit_of.ensures unasked (rw c.in-Err-Missing.field-0-is at c.in-Err-Missing.ensures.bytes)
    (rw c.in-Err-Missing.field-0-is at c.in-Err-Missing.ensures.count) c.say-in-Err-Missing.ensures

pub returns-in-Err-TooLong-clause-answered : goal.returns-in-Err-TooLong-clause-answered
returns-in-Err-TooLong-clause-answered g c =
    let e : Some c.in-Ok-Some.job ≡ job_of (map string_bytes c.args.words.items) = rw (c.in-Ok-Some.field-0-is, c.deref.ensures.value) at c.in-Ok-Some.ensures in
    too_long_said c.in-Ok-Some.job c.text.result.now c.limit_of.result e (c.text.ensures ∙ c.file_name.ensures) c.limit_of.ensures unasked (rw c.in-Err-TooLong.field-0-is at c.in-Err-TooLong.ensures.bytes)
    (rw c.in-Err-TooLong.field-0-is at c.in-Err-TooLong.ensures.count) c.say-in-Err-TooLong.ensures

pub returns-in-Err-Failed-clause-answered : goal.returns-in-Err-Failed-clause-answered
returns-in-Err-Failed-clause-answered g c =
    let e : Some c.in-Ok-Some.job ≡ job_of (map string_bytes c.args.words.items) = rw (c.in-Ok-Some.field-0-is, c.deref.ensures.value) at c.in-Ok-Some.ensures in
    fault_said c.in-Ok-Some.job c.text.result.now c.limit_of.result e (c.text.ensures ∙ c.file_name.ensures) c.limit_of.ensures unasked (rw c.in-Err-Failed.field-0-is at c.in-Err-Failed.ensures.count) c.say-in-Err-Failed.ensures

pub returns-clause-answered : goal.returns-clause-answered
returns-clause-answered g c = memory_said unasked c.out_of_memory-in-Err-Memory.ensures

pub returns-in-Ok-None-clause-complete : goal.returns-in-Ok-None-clause-complete
returns-in-Ok-None-clause-complete g c = complete (returns-in-Ok-None-clause-answered g c)

pub returns-in-Err-clause-complete : goal.returns-in-Err-clause-complete
returns-in-Err-clause-complete g c = complete (returns-in-Err-clause-answered g c)

pub returns-in-Ok-clause-complete : goal.returns-in-Ok-clause-complete
returns-in-Ok-clause-complete g c = complete (returns-in-Ok-clause-answered g c)

pub returns-in-Err-Missing-clause-complete : goal.returns-in-Err-Missing-clause-complete
returns-in-Err-Missing-clause-complete g c = complete (returns-in-Err-Missing-clause-answered g c)

pub returns-in-Err-TooLong-clause-complete : goal.returns-in-Err-TooLong-clause-complete
returns-in-Err-TooLong-clause-complete g c = complete (returns-in-Err-TooLong-clause-answered g c)

pub returns-in-Err-Failed-clause-complete : goal.returns-in-Err-Failed-clause-complete
returns-in-Err-Failed-clause-complete g c = complete (returns-in-Err-Failed-clause-answered g c)

pub returns-clause-complete : goal.returns-clause-complete
returns-clause-complete g c = complete (returns-clause-answered g c)

pub returns-in-Ok-None-clause-status : goal.returns-in-Ok-None-clause-status
returns-in-Ok-None-clause-status g c = answered_status (returns-in-Ok-None-clause-answered g c)

pub returns-in-Err-clause-status : goal.returns-in-Err-clause-status
returns-in-Err-clause-status g c = answered_status (returns-in-Err-clause-answered g c)

pub returns-in-Ok-clause-status : goal.returns-in-Ok-clause-status
returns-in-Ok-clause-status g c = answered_status (returns-in-Ok-clause-answered g c)

pub returns-in-Err-Missing-clause-status : goal.returns-in-Err-Missing-clause-status
returns-in-Err-Missing-clause-status g c = answered_status (returns-in-Err-Missing-clause-answered g c)

pub returns-in-Err-TooLong-clause-status : goal.returns-in-Err-TooLong-clause-status
returns-in-Err-TooLong-clause-status g c = answered_status (returns-in-Err-TooLong-clause-answered g c)

pub returns-in-Err-Failed-clause-status : goal.returns-in-Err-Failed-clause-status
returns-in-Err-Failed-clause-status g c = answered_status (returns-in-Err-Failed-clause-answered g c)

pub returns-clause-status : goal.returns-clause-status
returns-clause-status g c = answered_status (returns-clause-answered g c)

pub returns-in-Ok-None-clause-fault : goal.returns-in-Ok-None-clause-fault
returns-in-Ok-None-clause-fault g c e = fault_shown (returns-in-Ok-None-clause-answered g c) e

pub returns-in-Err-clause-fault : goal.returns-in-Err-clause-fault
returns-in-Err-clause-fault g c e = fault_shown (returns-in-Err-clause-answered g c) e

pub returns-in-Ok-clause-fault : goal.returns-in-Ok-clause-fault
returns-in-Ok-clause-fault g c e = fault_shown (returns-in-Ok-clause-answered g c) e

pub returns-in-Err-Missing-clause-fault : goal.returns-in-Err-Missing-clause-fault
returns-in-Err-Missing-clause-fault g c e = fault_shown (returns-in-Err-Missing-clause-answered g c) e

pub returns-in-Err-TooLong-clause-fault : goal.returns-in-Err-TooLong-clause-fault
returns-in-Err-TooLong-clause-fault g c e = fault_shown (returns-in-Err-TooLong-clause-answered g c) e

pub returns-in-Err-Failed-clause-fault : goal.returns-in-Err-Failed-clause-fault
returns-in-Err-Failed-clause-fault g c e = fault_shown (returns-in-Err-Failed-clause-answered g c) e

pub returns-clause-fault : goal.returns-clause-fault
returns-clause-fault g c e = fault_shown (returns-clause-answered g c) e

pub returns-in-Ok-None-clause-unread : goal.returns-in-Ok-None-clause-unread
returns-in-Ok-None-clause-unread g c = unasked_leaves (job_of (map string_bytes c.args.words.items)) _ _

pub returns-in-Err-clause-unread : goal.returns-in-Err-clause-unread
returns-in-Err-clause-unread g c = unasked_leaves (job_of (map string_bytes c.args.words.items)) _ _

pub returns-in-Ok-clause-unread : goal.returns-in-Ok-clause-unread
returns-in-Ok-clause-unread g c =
    let e : Some c.in-Ok-Some.job ≡ job_of (map string_bytes c.args.words.items) = rw (c.in-Ok-Some.field-0-is, c.deref.ensures.value) at c.in-Ok-Some.ensures in
    leaves_by e c.do_job.ensures.unread

pub returns-in-Err-Missing-clause-unread : goal.returns-in-Err-Missing-clause-unread
returns-in-Err-Missing-clause-unread g c = unasked_leaves (job_of (map string_bytes c.args.words.items)) _ _

pub returns-in-Err-TooLong-clause-unread : goal.returns-in-Err-TooLong-clause-unread
returns-in-Err-TooLong-clause-unread g c = unasked_leaves (job_of (map string_bytes c.args.words.items)) _ _

pub returns-in-Err-Failed-clause-unread : goal.returns-in-Err-Failed-clause-unread
returns-in-Err-Failed-clause-unread g c = unasked_leaves (job_of (map string_bytes c.args.words.items)) _ _

pub returns-clause-unread : goal.returns-clause-unread
returns-clause-unread g c = unasked_leaves (job_of (map string_bytes c.args.words.items)) _ _

pub returns-in-Ok-clause-unfetched : goal.returns-in-Ok-clause-unfetched
returns-in-Ok-clause-unfetched g c none =
    let e : Some c.in-Ok-Some.job ≡ job_of (map string_bytes c.args.words.items) = rw (c.in-Ok-Some.field-0-is, c.deref.ensures.value) at c.in-Ok-Some.ensures in
    has_job e none

pub returns-in-Err-Missing-clause-unfetched : goal.returns-in-Err-Missing-clause-unfetched
returns-in-Err-Missing-clause-unfetched g c none =
    let e : Some c.in-Ok-Some.job ≡ job_of (map string_bytes c.args.words.items) = rw (c.in-Ok-Some.field-0-is, c.deref.ensures.value) at c.in-Ok-Some.ensures in
    has_job e none

pub returns-in-Err-TooLong-clause-unfetched : goal.returns-in-Err-TooLong-clause-unfetched
returns-in-Err-TooLong-clause-unfetched g c none =
    let e : Some c.in-Ok-Some.job ≡ job_of (map string_bytes c.args.words.items) = rw (c.in-Ok-Some.field-0-is, c.deref.ensures.value) at c.in-Ok-Some.ensures in
    has_job e none

pub returns-in-Err-Failed-clause-unfetched : goal.returns-in-Err-Failed-clause-unfetched
returns-in-Err-Failed-clause-unfetched g c none =
    let e : Some c.in-Ok-Some.job ≡ job_of (map string_bytes c.args.words.items) = rw (c.in-Ok-Some.field-0-is, c.deref.ensures.value) at c.in-Ok-Some.ensures in
    has_job e none

pub returns-clause-unfetched : goal.returns-clause-unfetched
returns-clause-unfetched g c none =
    let e : Some c.in-Ok-Some.job ≡ job_of (map string_bytes c.args.words.items) = rw (c.in-Ok-Some.field-0-is, c.deref.ensures.value) at c.in-Ok-Some.ensures in
    has_job e none
