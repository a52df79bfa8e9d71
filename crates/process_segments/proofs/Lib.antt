pub mod SegmentRows
