pub mod RecordRuns
