mod NumberLemmas
mod WritingLemmas
mod RoundTrip
mod RecordLemmas
mod TableLemmas
mod TableBridge
mod FirstFaults
