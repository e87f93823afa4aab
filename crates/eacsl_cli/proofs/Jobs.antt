-- The answers to the words of a command line.
use Rattle.std.proofs.Common.{◌≡◌, ℕ, ◌≤◌, ◌<◌, List, [], length, codes, Option, Some, None, refl, sym, subst}
use Rattle.std.specs.Prelude.{IfSome}
use Rattle.c_model.specs.declared.job.Job.{Job}
use Rattle.c_model.specs.Words.{job_of}
use Rattle.c_model.specs.WordLaws.{file_named}
use Rattle.c_model.specs.Reports.{line_of}
use Rattle.ea_ports.specs.Port.{RefusalCount, Rose}
use Rattle.ea_ports.proofs.Told.{more-nil}
use Rattle.c_machine.specs.Inputs.{Taking, Untouched}
use Rattle.eacsl_cli.specs.Answers.{Answer, silent, memory_line, file_limit, Change, change, IsSaid, Answered, IsDue, Usage, NoFile, TooLong, FolderFault, OfText, Begins, Nothing, BeginsText, TextDue, TextBegins}
use Rattle.eacsl_cli.proofs.Sayings.{said_answer, said_memory, answered_by}

module _ {words : List (List ℕ)} {content : Option (List ℕ → Option (List ℕ))} {before now : ℕ} {source : Taking} {told : Option (List ℕ)} {faults : ℕ} {err : Change} {result : ℕ} where
  -- an answer without output was said
  silent_said : (status : ℕ) (line : List ℕ) → Untouched source → IsDue words content before now source (silent status line) → IsSaid (line_of line) status err result
      → Answered (IsDue words content before now source) (Begins words content before now source) (change told told faults faults) err result
  silent_said status line u d s = said_answer (silent status line) d (Nothing refl u) (sym (more-nil told)) refl s

  -- nothing was put, since memory ran out
  pub memory_said : Untouched source → IsSaid memory_line 9 err result → Answered (IsDue words content before now source) (Begins words content before now source) (change told told faults faults) err result
  memory_said u s = said_memory [] (Nothing refl u) (sym (more-nil told)) refl s

  pub usage_said : None ≡ job_of words → now ≡ before → Untouched source → IsSaid (line_of (codes "usage")) 3 err result
      → Answered (IsDue words content before now source) (Begins words content before now source) (change told told faults faults) err result
  usage_said e n u s = silent_said 3 (codes "usage") u (Usage (sym e) n u refl) s

  module _ (j : Job) (name : List ℕ) (limit : ℕ) (e : Some j ≡ job_of words) (m : name ≡ file_named j) (k : limit ≡ file_limit j) (u : Untouched source) where
    pub missing_said : IfSome content (λ files. files name ≡ None) → RefusalCount content before now → IsSaid (line_of (codes "no file")) 10 err result
        → Answered (IsDue words content before now source) (Begins words content before now source) (change told told faults faults) err result
    missing_said h n s = silent_said 10 (codes "no file") u (NoFile j (sym e) (subst (λ x. IfSome content (λ files. files x ≡ None)) m h) n u refl) s

    pub too_long_said : IfSome content (λ files. (bytes : List ℕ) × (files name ≡ Some bytes) × (limit < length bytes)) → RefusalCount content before now → IsSaid (line_of (codes "file too long")) 11 err result
        → Answered (IsDue words content before now source) (Begins words content before now source) (change told told faults faults) err result
    too_long_said h n s =
        silent_said 11 (codes "file too long") u (TooLong j (sym e) (subst (λ x. IfSome content (λ files. (bytes : List ℕ) × (files (file_named j) ≡ Some bytes) × (x < length bytes))) k
        (subst (λ x. IfSome content (λ files. (bytes : List ℕ) × (files x ≡ Some bytes) × (limit < length bytes))) m h)) n u refl) s

    pub fault_said : Rose before now → IsSaid (line_of (codes "read fault")) 7 err result → Answered (IsDue words content before now source) (Begins words content before now source) (change told told faults faults) err result
    fault_said n s = silent_said 7 (codes "read fault") u (FolderFault j (sym e) n u refl) s

-- what is due for the text of the file is due for the words
pub file_answered : {words : List (List ℕ)} {content : Option (List ℕ → Option (List ℕ))} {before now : ℕ} {source : Taking} {out err : Change} {result : ℕ} (j : Job) (name text text' : List ℕ) (limit : ℕ) → Some j ≡ job_of words
    → name ≡ file_named j → limit ≡ file_limit j → text' ≡ text → (length text ≤ limit) × IfSome content (λ files. files name ≡ Some text) → now ≡ before → Answered (TextDue source j text') (TextBegins source j text') out err result
    → Answered (IsDue words content before now source) (Begins words content before now source) out err result
file_answered {words} {content} {before} {now} {source} j name text text' limit e m k t h n a = answered_by due begin (rw t at a)
  where
    told : IfSome content (λ files. files (file_named j) ≡ Some text)
    told = subst (λ x. IfSome content (λ files. files x ≡ Some text)) m h.1

    short : length text ≤ file_limit j
    short = subst (λ x. length text ≤ x) k h.0

    due : (a : Answer) → TextDue source j text a → IsDue words content before now source a
    due a d = OfText j text (sym e) told short n d

    begin : (sent : List ℕ) → TextBegins source j text sent → Begins words content before now source sent
    begin sent b = BeginsText j text (sym e) told short n b
